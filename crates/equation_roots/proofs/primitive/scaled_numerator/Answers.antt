use Rattle.std.proofs.Common.{refl, ◌*ℤ◌, ◌/◌, ℕ, ℤ, pos, ap, ◌∙◌}
use Rattle.calc_terms.specs.{Fractions.{whole_fraction}, Rat.{value_of}}
use Rattle.equation_roots.proofs.{CommonFactors.{scaled_entry}, Wide.{told}}
use Rattle.equation_roots.proofs.{Sizes.{scaled_misfit}, Wide.{handed}}
use Rattle.equation_roots.proofs.primitive.scaled_numerator.Goals as goal

pub returns-clause-value : goal.returns-clause-value
returns-clause-value c =
    let n = told c.parts-num.result.0 c.parts-num.ensures.num_fits ∙ c.parts-num.ensures.num in
    let f = told c.whole-factor.result c.whole-factor.ensures.fits ∙ c.whole-factor.ensures.value ∙ ap (λ (d : ℕ). pos (c.args.common / d)) c.parts-num.ensures.den in
    let e = c.in_ok-numerator.ensures.value ∙ (λ i. n i *ℤ f i) in
    ap (λ (z : ℤ). whole_fraction z) (told c.in_ok-numerator.numerator c.in_ok-numerator.ensures.fits ∙ e) ∙ scaled_entry (value_of c.args.q) c.args.common c.requires.common

pub returns-in_err-numerator-clause-beyond : goal.returns-in_err-numerator-clause-beyond
returns-in_err-numerator-clause-beyond c = λ e.
    let n = told c.parts-num.result.0 c.parts-num.ensures.num_fits ∙ c.parts-num.ensures.num in
    let f = told c.whole-factor.result c.whole-factor.ensures.fits ∙ c.whole-factor.ensures.value ∙ ap (λ (d : ℕ). pos (c.args.common / d)) c.parts-num.ensures.den in
    scaled_misfit (value_of c.args.q) c.args.common (handed c.parts-num.result.0) (handed c.whole-factor.result) n f (c.in_err-numerator.ensures.beyond refl)
