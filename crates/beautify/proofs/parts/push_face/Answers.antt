use Rattle.beautify.proofs.{Shared.{◌∙◌, sym, ap, arith, Tree, more, plain, tree_at, forest, least_size}, Pushing.owes_as, Resolving.signed_face}
use Rattle.beautify.proofs.parts.push_face.Goals as goal

pub returns-then-is_negative-clause-owed : goal.returns-then-is_negative-clause-owed
returns-then-is_negative-clause-owed c us r o =
    let t = plain (tree_at c.args.tree (forest c.args.pool.now)) in
    let face_is = signed_face t _ (sym c.if-is_negative.true ∙ c.is_negative.ensures) in
    owes_as (c.push_over.ensures.owed (forest c.args.pool.now) _ _ (c.push_unsigned.ensures.owed us r o) (omega arith)) (ap (λ (u : Tree). more u us) face_is) (omega (arith, least_size t))

pub returns-else-is_negative-clause-owed : goal.returns-else-is_negative-clause-owed
returns-else-is_negative-clause-owed c us r o =
    let t = plain (tree_at c.args.tree (forest c.args.pool.now)) in
    let face_is = signed_face t _ (sym c.if-is_negative.false ∙ c.is_negative.ensures) in
    owes_as (c.push_unsigned.ensures.owed us r o) (ap (λ (u : Tree). more u us) face_is) (omega (arith, least_size t))
