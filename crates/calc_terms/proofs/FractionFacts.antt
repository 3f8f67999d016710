-- Equal fractions have equal cross products, and the tests for 0 and 1.
use Rattle.calc_terms.proofs.Shared.{nat_lt, nat_abs, zero, suc, negsuc, true, false, not, ◌==◌, refl, ◌≢◌, ◌≡◌, ℕ, ◌<◌, ℤ, pos, ◌*ℤ◌, sym, ap, ◌∙◌, arith, ints}
use Rattle.calc_terms.proofs.Shared.{eq-eqb, and_parts, eqb-true, false_from_ne_true, gcd, gcd_step, gcd_zero, int_is_zero, int_is_one, parts, diffs, eq_diff, combine, cancel_pos, Fraction, lowest}
use Rattle.calc_terms.proofs.Shared.{zero_fraction, one_fraction, is_zero_fraction, is_one_fraction, held, same_fraction, lowest_cross, lowest_parts, same_lowest, den_pos}

crossed : (x : ℤ) (d : ℕ) (p r : ℤ) (q s : ℕ) → 0 < d → x *ℤ pos q ≡ p *ℤ pos d → x *ℤ pos s ≡ r *ℤ pos d → p *ℤ pos s ≡ r *ℤ pos q
crossed x d p r q s h e f = cancel_pos _ _ d h
    (combine _ _ (pos q) _ _ (combine _ _ (pos s) _ _ (rw (parts x, parts p, parts r) (simp diffs (eq_diff _ _ _ _ (omega arith)))) (sym e)) f)

pub cross_products : (p r : ℤ) (q s : ℕ) → 0 < q → 0 < s → lowest p q ≡ lowest r s → p *ℤ pos s ≡ r *ℤ pos q
cross_products p r q s h k e =
    crossed (lowest p q).num (lowest p q).den p r q s (den_pos (lowest p q)) (lowest_cross p q h)
    (ap (λ x. x.num *ℤ pos s) e ∙ lowest_cross r s k ∙ ap (λ x. r *ℤ pos x.den) (sym e))

-- ---- the tests for 0 and 1

num_zero : (z : ℤ) → int_is_zero z ≡ true → z ≡ pos 0
num_zero (pos zero) h = refl
num_zero (pos (suc n)) h = cc
num_zero (negsuc n) h = cc

num_one : (z : ℤ) → int_is_one z ≡ true → z ≡ pos 1
num_one (pos zero) h = cc
num_one (pos (suc zero)) h = refl
num_one (pos (suc (suc n))) h = cc
num_one (negsuc n) h = cc

pub zero_is : (q : Fraction) → is_zero_fraction q ≡ true → q ≡ zero_fraction
unfolding zero_fraction
zero_is q h = lowest_parts q ∙ ap (λ z. lowest z q.den) (num_zero q.num h) ∙ same_lowest (pos 0) (pos 0) q.den 1 (den_pos q) (omega arith) (omega (arith, ints))

pub one_is : (q : Fraction) → is_one_fraction q ≡ true → q ≡ one_fraction
unfolding one_fraction
one_is q h = let (a, b) = and_parts (int_is_one q.num) (q.den == 1) h in lowest_parts q ∙ (λ i. lowest (num_one q.num a i) (eqb-true q.den 1 b i))

pub no_zero : (q : Fraction) → not (is_zero_fraction q) ≡ true → q ≢ zero_fraction
unfolding zero_fraction lowest gcd
no_zero q h e = let f : not (is_zero_fraction zero_fraction) ≡ true = ap (λ x. not (is_zero_fraction x)) (sym e) ∙ h in cc

pub no_one : (q : Fraction) → not (is_one_fraction q) ≡ true → q ≢ one_fraction
unfolding one_fraction lowest gcd
no_one q h e = let f : false ≡ true = ap (λ x. not (is_one_fraction x)) (sym e) ∙ h in cc

pub zero_test : (q : Fraction) → q ≢ zero_fraction → is_zero_fraction q ≡ false
zero_test q h = false_from_ne_true (is_zero_fraction q) (λ e. h (zero_is q e))

pub one_test : (q : Fraction) → q ≢ one_fraction → is_one_fraction q ≡ false
one_test q h = false_from_ne_true (is_one_fraction q) (λ e. h (one_is q e))

-- ---- whole numbers

gcd_one : (n : ℕ) → gcd n 1 ≡ 1
gcd_one n = gcd_step n 1 (omega arith) ∙ ap (gcd 1) (omega arith) ∙ gcd_zero 1

whole_parts : ℤ → Fraction
whole_parts z = record { num = z; den = 1; lowest = held (nat_lt 0 1) (gcd (nat_abs z) 1 == 1) refl (eq-eqb (gcd (nat_abs z) 1) 1 (gcd_one (nat_abs z))) }

whole_is : (z : ℤ) → lowest z 1 ≡ whole_parts z
unfolding whole_parts
whole_is z = same_fraction (lowest z 1) (whole_parts z) (lowest_cross z 1 (omega arith))

-- the numerator and the denominator of a whole number
pub whole_numerator : (z : ℤ) → (lowest z 1).num ≡ z
unfolding whole_parts
whole_numerator z = ap (λ q. q.num) (whole_is z)

pub whole_denominator : (z : ℤ) → (lowest z 1).den ≡ 1
unfolding whole_parts
whole_denominator z = ap (λ q. q.den) (whole_is z)
