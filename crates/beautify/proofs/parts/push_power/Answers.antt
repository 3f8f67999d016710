use Rattle.beautify.proofs.{Shared.{refl, sym, ap, ◌∙◌, arith, Tree, IsReadyPart, Divisor, more, plain, nth, children_of, tree_at, forest}, Pushing.owes_as}
use Rattle.beautify.proofs.Resolving.{ready_child, two_children, raised_face, inverse_face, power_size, below_size}
use Rattle.beautify.proofs.parts.push_power.Goals as goal

pub returns-then-is_below-clause-owed : goal.returns-then-is_below-clause-owed
returns-then-is_below-clause-owed c us r o =
    let f = forest c.args.pool.now in
    let t = plain (tree_at c.args.power f) in
    let below = sym c.is_below.ensures ∙ c.if-is_below.true in
    let ready : IsReadyPart Divisor c.args.power f = record { expression = c.requires.ready.expression; showable = c.requires.ready.showable; takes-it = below } in
    let divisor = c.push.ensures.owed f us r o ready in
    let one = c.push-then-is_below.ensures.owed f _ _ divisor tt in
    owes_as (c.push_over.ensures.owed f _ _ one (omega arith)) (ap (λ (u : Tree). more u us) (inverse_face t c.requires.power below))
    (omega (arith, power_size t (nth 0 (children_of t)) (nth 1 (children_of t)) c.requires.power refl refl, below_size t (nth 1 (children_of t)) below refl))

pub returns-clause-owed : goal.returns-clause-owed
returns-clause-owed c us r o =
    let f = forest c.args.pool.now in
    let t = plain (tree_at c.args.power f) in
    let x = c.requires.ready.expression in
    let base = c.child_id-2.ensures.plain x in
    let exponent = c.child_id.ensures.plain x in
    let two = two_children t c.requires.power in
    let last = c.push-2.ensures.owed f us r o (ready_child {n = 1} c.requires.ready two.1 (c.child_id.ensures.expression x) exponent) in
    let first = c.push-3.ensures.owed f _ _ last (ready_child {n = 0} c.requires.ready two.0 (c.child_id-2.ensures.expression x) base) in
    owes_as (c.push_over-2.ensures.owed f _ _ first (omega arith)) (ap (λ (u : Tree). more u us) (raised_face t _ _ c.requires.power base exponent (sym c.is_below.ensures ∙ c.if-is_below.false))) (omega (arith, power_size t _ _ c.requires.power base exponent))
