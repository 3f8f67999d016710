use Rattle.beautify.proofs.{Shared.{◌≡◌, sym, ap, ◌∙◌, arith, true, Tree, IsExpression, is_num, more, plain, tree_at, forest, value_of}, Pushing.owes_as}
use Rattle.beautify.proofs.Resolving.{whole_face, parted_face, number_size, parted_size}
use Rattle.beautify.proofs.parts.push_number.Goals as goal

pub returns-then-denominator-eq1-clause-owed : goal.returns-then-denominator-eq1-clause-owed
returns-then-denominator-eq1-clause-owed c us r o =
    let t = plain (tree_at c.args.number (forest c.args.pool.now)) in
    let q = value_of c.rational.result in
    owes_as (c.push.ensures.owed (forest c.args.pool.now) us r o (c.requires.ready.expression, c.requires.number)) (ap (λ (u : Tree). more u us) (whole_face t q c.rational.ensures.plain (sym c.denominator.ensures.value ∙ c.if-denominator-eq1.true)))
    (omega (arith, number_size t q c.rational.ensures.plain))

pub returns-clause-owed : goal.returns-clause-owed
returns-clause-owed c us r o =
    let f = forest c.args.pool.now in
    let t = plain (tree_at c.args.number f) in
    let q = value_of c.rational.result in
    let ready : IsExpression c.args.number f × (is_num t ≡ true) = (c.requires.ready.expression, c.requires.number) in
    let parted : q.den ≡ 1 → ⊥ = λ e. c.if-denominator-eq1.false (c.denominator.ensures.value ∙ e) in
    let below = c.push-2.ensures.owed f us r o ready in
    let above = c.push-3.ensures.owed f _ _ below ready in
    owes_as (c.push_over.ensures.owed f _ _ above (omega arith)) (ap (λ (u : Tree). more u us) (parted_face t q c.rational.ensures.plain parted)) (omega (arith, parted_size t q c.rational.ensures.plain parted))
