use Rattle.std.proofs.Common.{refl, ◌≤◌, ◌^◌, get_or}
use Rattle.calc_bits.specs.Denominators.{magnitude_over}
use Rattle.equation_roots.proofs.Sizes.{entry_at_most}
use Rattle.std.proofs.Common.{◌<◌, ◌+◌, ℕ, ℤ, pos, length, length-append, ap, sym, subst, ◌∙◌, arith}
use Rattle.std.specs.Int.{◌∣◌}
use Rattle.std.proofs.lemmas.List.{length-map, map-append}
use Rattle.calc_terms.specs.{Fractions.{Fraction, times, whole_fraction, zero_fraction}, Rat.{value_of}}
use Rattle.equation_roots.specs.{Told.{dense_in, wholes_of}, Wholes.{fractions}}
use Rattle.equation_roots.proofs.{CommonFactors.{item_value, map_more}, Wide.{told}}
use Rattle.equation_roots.proofs.primitive.scaled.Goals as goal

pub scaled_numerator-requires-clause-common : goal.scaled_numerator-requires-clause-common
scaled_numerator-requires-clause-common c =
    subst (λ (f : Fraction). f.den ∣ c.args.common) (sym (item_value value_of c.args.coefficients.now c.loop-q.q-index c.q-item.result zero_fraction c.loop-q-test.true c.q-item.is)) (c.requires.common c.loop-q.q-index c.loop-q-test.true)

pub loop-q-preserved : goal.loop-q-preserved
loop-q-preserved c =
    let i = item_value value_of c.args.coefficients.now c.loop-q.q-index c.q-item.result zero_fraction c.loop-q-test.true c.q-item.is in
    let n = ap (λ (z : ℤ). whole_fraction z) (told c.in_ok-numerator.numerator c.in_ok-numerator.ensures.fits) ∙ c.in_ok-numerator.ensures.value ∙ ap (times (whole_fraction (pos c.args.common))) i in
    let l : c.loop-q.q-index < length (dense_in c.args.coefficients.now) = omega (arith, length-map c.args.coefficients.now value_of, c.loop-q-test.true) in
    record {
      made = ap fractions c.push.ensures ∙ map-append whole_fraction (wholes_of c.loop-q.wholes) _
          ∙ map_more (times (whole_fraction (pos c.args.common))) (dense_in c.args.coefficients.now) c.loop-q.q-index zero_fraction (fractions (wholes_of c.loop-q.wholes)) _ l c.loop-q.invariant.made n;
      long = ap length c.push.ensures ∙ length-append (wholes_of c.loop-q.wholes) _ ∙ ap (λ (m : ℕ). m + 1) c.loop-q.invariant.long;
    }

pub returns-in_err-numerator-clause-beyond : goal.returns-in_err-numerator-clause-beyond
returns-in_err-numerator-clause-beyond c = λ e.
    let i = item_value value_of c.args.coefficients.now c.loop-q.q-index c.q-item.result zero_fraction c.loop-q-test.true c.q-item.is in
    let l : c.loop-q.q-index < length (dense_in c.args.coefficients.now) = omega (arith, length-map c.args.coefficients.now value_of, c.loop-q-test.true) in
    let m : 2 ^ 127 ≤ magnitude_over c.args.common (get_or (dense_in c.args.coefficients.now) c.loop-q.q-index zero_fraction) = subst (λ (q : Fraction). 2 ^ 127 ≤ magnitude_over c.args.common q) i (c.in_err-numerator.ensures.beyond refl) in
    omega (arith, m, entry_at_most c.args.common (dense_in c.args.coefficients.now) c.loop-q.q-index l)
