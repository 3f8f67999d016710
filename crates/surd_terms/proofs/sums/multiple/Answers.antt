use Rattle.surd_terms.proofs.{Shared.{sym, ap, ◌∙◌, to_z, of_z, w128, told}, Rationals.{value_not_zero, value_zero}}
use Rattle.surd_terms.proofs.sums.multiple.Goals as goal

pub new-requires-clause-not_zero : goal.new-requires-clause-not_zero
new-requires-clause-not_zero c = value_not_zero c.args.c (λ e. c.if-num-eq0.false (ap (of_z w128) (c.num.ensures.value ∙ e)))

pub returns-then-num-eq0 : goal.returns-then-num-eq0
returns-then-num-eq0 c = value_zero c.args.c (sym (told c.args.c.num c.args.c.fits) ∙ ap (to_z w128) (ap (of_z w128) (sym c.num.ensures.value) ∙ c.if-num-eq0.true))
