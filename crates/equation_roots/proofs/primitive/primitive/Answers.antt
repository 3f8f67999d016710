use Rattle.std.proofs.Common.{refl, ℕ, List, ◌<◌, ◌≤◌, ◌^◌, length, get_or, arith}
use Rattle.std.specs.Int.{◌∣◌}
use Rattle.std.proofs.lemmas.{List.{length-map}, Nat.Gcd.{le_of_dvd}}
use Rattle.calc_terms.specs.{Fractions.{Fraction, zero_fraction}, Rat.{value_of}, declared.rat.Rat.{Rat}}
use Rattle.equation_roots.specs.Sizes.{HasFewBits, IsCommon, mass_over}
use Rattle.equation_roots.proofs.Sizes.{mass_grows, mass_scaled, mass_shrinks}
use Rattle.std.proofs.Common.{pos, ap, ◌∙◌}
use Rattle.calc_terms.specs.{Fractions.{whole_fraction}, Integers.{int_is_negative}}
use Rattle.equation_roots.specs.Told.{dense_in, wholes_of}
use Rattle.equation_roots.proofs.{CommonFactors.{common_not_zero, is_primitive, leading_not_zero}, Wide.{told}}
use Rattle.equation_roots.proofs.primitive.primitive.Goals as goal

pub common_factor-shared-requires : goal.common_factor-shared-requires
common_factor-shared-requires c =
    leading_not_zero (whole_fraction (pos c.in_ok-common.common)) (dense_in c.args.coefficients.now) (wholes_of c.in_ok-wholes.wholes) (common_not_zero c.in_ok-common.common c.in_ok-common.ensures.positive) c.in_ok-wholes.ensures.multiple c.requires.leading

pub returns-clause-multiple : goal.returns-clause-multiple
returns-clause-multiple c =
    is_primitive (dense_in c.args.coefficients.now) (wholes_of c.in_ok-wholes.wholes) (wholes_of c.reduced.result) c.in_ok-common.common c.common_factor-shared.result c.is_negative-turned.result
    c.in_ok-common.ensures.positive c.common_factor-shared.ensures.positive (c.is_negative-turned.ensures ∙ ap int_is_negative (told c.leading.result c.leading.ensures.fits ∙ c.leading.ensures.value))
    c.requires.leading c.in_ok-wholes.ensures.multiple c.reduced.ensures

at_most_any : (p : List Fraction) (d : ℕ) (b : HasFewBits p) → ((n : ℕ) → IsCommon n p → d ∣ n) → mass_over d p ≤ 2 ^ 62
at_most_any p d b least = omega (arith, b.few, mass_grows d b.denominator p (le_of_dvd b.positive (least b.denominator b.common)))

counted : (xs : List Rat) (n : ℕ) → IsCommon n (dense_in xs) → (k : ℕ) → k < length xs → (get_or (dense_in xs) k zero_fraction).den ∣ n
counted xs n h k l = h k (omega (arith, l, length-map xs value_of))

counted_back : (xs : List Rat) (n : ℕ) → ((k : ℕ) → k < length xs → (get_or (dense_in xs) k zero_fraction).den ∣ n) → IsCommon n (dense_in xs)
counted_back xs n h k l = h k (omega (arith, l, length-map xs value_of))

pub returns-in_err-common-clause-bits : goal.returns-in_err-common-clause-bits
returns-in_err-common-clause-bits c = λ e b.
    let m = c.in_err-common.ensures.beyond refl b.denominator b.positive (counted c.args.coefficients.now b.denominator b.common) in
    omega (arith, m, b.fits)

pub returns-in_err-wholes-clause-bits : goal.returns-in_err-wholes-clause-bits
returns-in_err-wholes-clause-bits c = λ e b.
    let m = at_most_any (dense_in c.args.coefficients.now) c.in_ok-common.common b (λ n h. c.in_ok-common.ensures.least n (counted c.args.coefficients.now n h)) in
    omega (arith, m, c.in_err-wholes.ensures.beyond refl)

pub returns-clause-light : goal.returns-clause-light
returns-clause-light c = λ b.
    let m = at_most_any (dense_in c.args.coefficients.now) c.in_ok-common.common b (λ n h. c.in_ok-common.ensures.least n (counted c.args.coefficients.now n h)) in
    let s = mass_scaled (wholes_of c.in_ok-wholes.wholes) (dense_in c.args.coefficients.now) c.in_ok-common.common (counted_back c.args.coefficients.now c.in_ok-common.common c.in_ok-common.ensures.common) c.in_ok-wholes.ensures.multiple in
    let r = mass_shrinks c.is_negative-turned.result c.common_factor-shared.result (wholes_of c.reduced.result) (wholes_of c.in_ok-wholes.wholes) c.common_factor-shared.ensures.positive c.reduced.ensures in
    omega (arith, m, s, r)
