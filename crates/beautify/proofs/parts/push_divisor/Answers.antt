use Rattle.beautify.proofs.{Shared.{sym, ap, ◌∙◌, arith, Tree, more, plain, tree_at, forest}, Pushing.owes_as}
use Rattle.beautify.proofs.Resolving.{ready_child, two_children, is_power, divisor_one, divisor_more, exponent_num, power_size, below_size}
use Rattle.beautify.proofs.parts.push_divisor.Goals as goal

pub returns-then-below_the_line-eq1-clause-owed : goal.returns-then-below_the_line-eq1-clause-owed
returns-then-below_the_line-eq1-clause-owed c us r o =
    let f = forest c.args.pool.now in
    let t = plain (tree_at c.args.power f) in
    let x = c.requires.ready.expression in
    let below = c.requires.ready.takes-it in
    let base = c.child_id-base.ensures.plain x in
    let exponent = c.child_id-exponent.ensures.plain x in
    let two = two_children t (is_power t below) in
    owes_as (c.push.ensures.owed f us r o (ready_child {n = 0} c.requires.ready two.0 (c.child_id-base.ensures.expression x) base))
    (ap (λ (u : Tree). more u us) (divisor_one t _ _ below base exponent (sym c.below_the_line.ensures ∙ c.if-below_the_line-eq1.true))) (omega (arith, power_size t _ _ (is_power t below) base exponent, below_size t _ below exponent))

pub returns-clause-owed : goal.returns-clause-owed
returns-clause-owed c us r o =
    let f = forest c.args.pool.now in
    let t = plain (tree_at c.args.power f) in
    let x = c.requires.ready.expression in
    let below = c.requires.ready.takes-it in
    let base = c.child_id-base.ensures.plain x in
    let exponent = c.child_id-exponent.ensures.plain x in
    let two = two_children t (is_power t below) in
    let number = c.push-2.ensures.owed f us r o (c.child_id-exponent.ensures.expression x, exponent_num t _ below exponent) in
    let raised = c.push-3.ensures.owed f _ _ number (ready_child {n = 0} c.requires.ready two.0 (c.child_id-base.ensures.expression x) base) in
    owes_as (c.push_over.ensures.owed f _ _ raised (omega arith)) (ap (λ (u : Tree). more u us) (divisor_more t _ _ below base exponent (λ e. c.if-below_the_line-eq1.false (c.below_the_line.ensures ∙ e))))
    (omega (arith, power_size t _ _ (is_power t below) base exponent, below_size t _ below exponent))
