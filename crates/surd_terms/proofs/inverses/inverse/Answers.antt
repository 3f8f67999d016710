use Rattle.surd_terms.proofs.{Shared.{pos, ◌∙◌, refl, ap, sym, times, whole_fraction, term, term_of}, Rationals.{whole_not_zero, num_not_zero, fits_times_one}}
use Rattle.surd_terms.proofs.{Values.{times_not_zero, inverse_not_zero, inverse_inverts}, inverses.inverse.Goals.{In_ok-product, After-new}}
use Rattle.calc_terms.specs.Fractions.{inverse as inverse_of_fraction}
use Rattle.surd_terms.proofs.inverses.inverse.Goals as goal

pub returns-in_err-product-clause-rational : goal.returns-in_err-product-clause-rational
returns-in_err-product-clause-rational c = λ one. absurd (cc (c.in_err-product.ensures.refused.0 refl, fits_times_one c.args.a.coefficient _ _ c.radicand.result c.coefficient.ensures.value c.whole.ensures.value (c.radicand.ensures.value ∙ one)))

pub invert-requires : goal.invert-requires
invert-requires c = num_not_zero c.in_ok-product.product (times_not_zero _ _ _ _ _ c.args.a.not_zero (whole_not_zero c.radicand.result c.radicand.ensures.positive) c.in_ok-product.ensures.product c.coefficient.ensures.value c.whole.ensures.value)

pub new-requires-clause-not_zero : goal.new-requires-clause-not_zero
new-requires-clause-not_zero c e =
    let product = times_not_zero _ _ _ _ _ c.args.a.not_zero (whole_not_zero c.radicand.result c.radicand.ensures.positive) c.in_ok-product.ensures.product c.coefficient.ensures.value c.whole.ensures.value in
    inverse_not_zero _ product (sym c.invert.ensures.inverse ∙ e)

pub returns-clause-inverts : goal.returns-clause-inverts
returns-clause-inverts c = inverse_inverts (term_of c.new.result) (term_of c.args.a) c.args.a.not_zero c.args.a.positive
    (c.new.ensures ∙ (λ i. term ((c.invert.ensures.inverse ∙ ap inverse_of_fraction (c.in_ok-product.ensures.product ∙ (λ j. times (c.coefficient.ensures.value j) ((c.whole.ensures.value ∙ ap (λ n. whole_fraction (pos n)) c.radicand.ensures.value) j)))) i) (c.radicand-2.ensures.value i)))
