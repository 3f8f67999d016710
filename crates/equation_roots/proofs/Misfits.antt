-- Operations on whole numbers that do not fit.
use Rattle.std.proofs.Common.{◌≡◌, ℕ, ◌/◌, ◌<◌, ◌^◌, ℤ, pos, ◌+ℤ◌, ◌*ℤ◌, nat_abs, Bool, true, false, ◌&&◌, refl, ap, ◌∙◌, arith}
use Rattle.std.proofs.lemmas.{Int.{ints}, Bool.{ltb-true, false_from_ne_true}}
use Rattle.calc_terms.specs.{Fits.{fits, fraction_fits, add_op, mul_op, operation_fits}, Fractions.{plus, whole_fraction, times_lowest}, Gcd.{gcd}}
use Rattle.calc_terms.proofs.FractionFacts.{whole_numerator, whole_denominator}

unfit : (z : ℤ) → ¬ (nat_abs z < 2 ^ 127) → fits z ≡ false
unfit z h = false_from_ne_true (fits z) (λ e. h (ltb-true _ _ e))

third : (p q s : Bool) → (p && q && false && s) ≡ false
third true true s = refl
third true false s = refl
third false true s = refl
third false false s = refl

-- the tests of a sum, on numerators and denominators
sum_test : ℤ → ℕ → ℤ → ℕ → Bool → Bool
sum_test p q r s d = let g = gcd q s in let x = p *ℤ pos (s / g) in let y = r *ℤ pos (q / g) in fits x && fits y && fits (x +ℤ y) && d

times_one_int : (a : ℤ) → a *ℤ pos 1 ≡ a
times_one_int a = omega (arith, ints)

whole_test : (a b : ℤ) (d : Bool) → ¬ (nat_abs (a +ℤ b) < 2 ^ 127) → sum_test a 1 b 1 d ≡ false
unfolding sum_test gcd
whole_test a b d h = rw (times_one_int a, times_one_int b, unfit (a +ℤ b) h) (third (fits a) (fits b) d)

pub sum_misfit : (a b : ℤ) → ¬ (nat_abs (a +ℤ b) < 2 ^ 127) → operation_fits add_op (whole_fraction a) (whole_fraction b) ≡ false
unfolding sum_test
sum_misfit a b h =
    let d : Bool = fits (pos (plus (whole_fraction a) (whole_fraction b)).den) in
    (λ i. sum_test (whole_numerator a i) (whole_denominator a i) (whole_numerator b i) (whole_denominator b i) d) ∙ whole_test a b d h

pub product_misfit : (a b : ℤ) → ¬ (nat_abs (a *ℤ b) < 2 ^ 127) → operation_fits mul_op (whole_fraction a) (whole_fraction b) ≡ false
product_misfit a b h =
    ap fraction_fits (times_lowest a b 1 1 (omega arith) (omega arith))
    ∙ ap (λ z. fits z && fits (pos (whole_fraction (a *ℤ b)).den)) (whole_numerator (a *ℤ b))
    ∙ ap (λ x. x && fits (pos (whole_fraction (a *ℤ b)).den)) (unfit (a *ℤ b) h)
