use Rattle.std.proofs.Common.{refl}
use Rattle.equation_roots.proofs.Sizes.{handed_item}
use Rattle.std.proofs.Common.{neg_ℤ, nat_abs, ap, sym, ◌∙◌}
use Rattle.calc_terms.specs.{Fractions.{lowest}, Rat.{value_of}}
use Rattle.equation_roots.specs.{Rationals.{rationals_of}, Told.{wholes_of}}
use Rattle.equation_roots.proofs.{Finishing.{finish_none, finish_one}, Wide.{told}}
use Rattle.equation_roots.proofs.quadratic.finish.Goals as goal

pub returns-then-len-eq1-clause-finishes : goal.returns-then-len-eq1-clause-finishes
returns-then-len-eq1-clause-finishes c =
    finish_none (rationals_of c.args.found.now) (wholes_of c.args.left.now) (sym c.len.ensures.value ∙ c.if-len-eq1.true) c.requires.positive

pub returns-then-len-eq2-clause-finishes : goal.returns-then-len-eq2-clause-finishes
returns-then-len-eq2-clause-finishes c =
    finish_one (rationals_of c.args.found.now) (rationals_of c.insert.new.self) (wholes_of c.args.left.now) (value_of c.ratio.result) (sym c.len-2.ensures.value ∙ c.if-len-eq2.true) c.requires.positive
    (c.ratio.ensures.value ∙ (λ i. lowest ((told c.opposite.result c.opposite.ensures.fits ∙ c.opposite.ensures.value ∙ ap neg_ℤ (told c.get.result c.get.ensures.fits ∙ c.get.ensures.value)) i)
    (nat_abs ((told c.get-then-len-eq2.result c.get-then-len-eq2.ensures.fits ∙ c.get-then-len-eq2.ensures.value) i)))) c.insert.ensures

pub returns-in_err-square-clause-bits : goal.returns-in_err-square-clause-bits
returns-in_err-square-clause-bits c = λ e h.
    c.in_err-square.ensures.bits refl (handed_item (wholes_of c.args.left.now) 2 c.get-2.result c.get-2.ensures.fits c.get-2.ensures.value h)
    (handed_item (wholes_of c.args.left.now) 1 c.get-3.result c.get-3.ensures.fits c.get-3.ensures.value h)
    (handed_item (wholes_of c.args.left.now) 0 c.get-4.result c.get-4.ensures.fits c.get-4.ensures.value h)
