use Rattle.expand_forms.proofs.{Shared.{sym, one_value, ◌∙◌, arith, children_number, plain, tree_at, forest}, TermReadings.{leading_is, leading_some}}
use Rattle.expand_forms.proofs.factors.leading.Goals as goal

pub returns-then-first_factor-eq0 : goal.returns-then-first_factor-eq0
returns-then-first_factor-eq0 c =
    one_value c.whole.result c.whole.ensures ∙ sym (leading_is (plain (tree_at c.args.product (forest c.args.pool.now))) c.requires.product (sym c.first_factor.ensures.value ∙ c.if-first_factor-eq0.true))

pub child_id-requires-clause-within : goal.child_id-requires-clause-within
child_id-requires-clause-within c =
    let t = plain (tree_at c.args.product (forest c.args.pool.now)) in
    let some = leading_some t c.requires.product (λ e. c.if-first_factor-eq0.false (c.first_factor.ensures.value ∙ e)) in
    omega (arith, some.2, children_number c.args.product (forest c.args.pool.now) c.requires.expression)
