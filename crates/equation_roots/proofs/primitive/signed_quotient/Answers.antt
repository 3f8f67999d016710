use Rattle.std.proofs.Common.{◌*ℤ◌, ℤ, neg_ℤ, Bool, ap, ◌∙◌}
use Rattle.calc_terms.specs.{Fractions.{over}, Ratio.{with_sign}}
use Rattle.equation_roots.proofs.{CommonFactors.{signed_kept, signed_turned}, Wide.{handed, told}}
use Rattle.equation_roots.proofs.primitive.signed_quotient.Goals as goal

pub returns-then-turned-clause-value : goal.returns-then-turned-clause-value
returns-then-turned-clause-value c =
    let q = told c.opposite.result c.opposite.ensures.fits ∙ c.opposite.ensures.value ∙ ap neg_ℤ (told c.over-quotient.result c.over-quotient.ensures.fits ∙ c.over-quotient.ensures.value ∙ ap (λ (z : ℤ). over z c.args.divisor) (told c.args.z c.requires.fits)) in
    ap (λ (b : Bool). with_sign b c.args.divisor *ℤ handed c.opposite.result) c.if-turned.true ∙ signed_turned c.args.z (handed c.opposite.result) c.args.divisor c.requires.divides q

pub returns-else-turned-clause-value : goal.returns-else-turned-clause-value
returns-else-turned-clause-value c =
    let q = told c.over-quotient.result c.over-quotient.ensures.fits ∙ c.over-quotient.ensures.value ∙ ap (λ (z : ℤ). over z c.args.divisor) (told c.args.z c.requires.fits) in
    ap (λ (b : Bool). with_sign b c.args.divisor *ℤ handed c.over-quotient.result) c.if-turned.false ∙ signed_kept c.args.z (handed c.over-quotient.result) c.args.divisor c.requires.divides q
