-- Which tree stands for a power, where a rule names it.
use Rattle.power_reduce.proofs.Shared.{or_right, ◌≡◌, ◌≢◌, ◌≤◌, ◌≤ℤ◌, ℤ, pos, true, false, ◌||◌, not, refl, sym, ap, ◌∙◌, arith, nat_le, le-leb, whole_numerator, whole_denominator, one_times}
use Rattle.power_reduce.proofs.Shared.{times_comm, Fraction, whole_fraction, zero_fraction, one_fraction, fraction_power, int_is_negative, Tree, num, power, number_test, is_number, classes, num_one}
use Rattle.power_reduce.proofs.Shared.{has_number_power, IsWrittenPower, is_zero_or_one, num_same}
use Rattle.calc_terms.proofs.SmallLaws.{contradiction as clash}

-- ---- exponents

pub whole_numbers : {y z : ℤ} → num (whole_fraction y) ≡ num (whole_fraction z) → y ≡ z
whole_numbers {y} {z} e = sym (whole_numerator y) ∙ ap (λ (q : Fraction). q.num) (num_same e) ∙ whole_numerator z

pub zero_exponent : {z : ℤ} → num (whole_fraction z) ≡ num zero_fraction → z ≡ pos 0
unfolding zero_fraction
zero_exponent e = whole_numbers e

pub one_exponent : {z : ℤ} → num (whole_fraction z) ≡ num one_fraction → z ≡ pos 1
unfolding one_fraction
one_exponent e = whole_numbers e

zero_is_none : is_zero_or_one (num zero_fraction) ≡ true
unfolding zero_fraction
zero_is_none = rw (whole_numerator (pos 0)) refl

one_is_none : is_zero_or_one (num one_fraction) ≡ true
unfolding one_fraction
one_is_none = rw (whole_numerator (pos 1), whole_denominator (pos 1)) refl

apart : num zero_fraction ≡ num one_fraction → ⊥
unfolding zero_fraction one_fraction
apart e = let k : pos 0 ≡ pos 1 = whole_numbers e in cc

-- ---- powers of Numbers

pub number_power : (b : Tree) (z : ℤ) → is_number b ≡ true → (not (int_is_negative z) || nat_le (classes b) 2) ≡ true → has_number_power b (num (whole_fraction z)) ≡ true
number_power b z n w = rw (whole_numerator z, whole_denominator z, n) w

pub few_classes : (b : Tree) (z : ℤ) → classes b ≤ 2 → (not (int_is_negative z) || nat_le (classes b) 2) ≡ true
few_classes b z l = rw (le-leb _ _ l) (or_right (not (int_is_negative z)) true refl)

pub rational_classes : (q : Fraction) → classes (num q) ≤ 2
rational_classes q = grind arith

pub first_power : (q : Fraction) → fraction_power q 1 ≡ q
first_power q = times_comm q one_fraction ∙ one_times q

-- ---- which tree it is

pub zero_written : (b : Tree) → IsWrittenPower b (num zero_fraction) num_one
zero_written b = record { zero = λ e. refl; one = λ e. absurd (apart e); kept = λ h. clash zero_is_none h.other }

pub one_written : (b : Tree) → IsWrittenPower b (num one_fraction) b
one_written b = record { zero = λ e. absurd (apart (sym e)); one = λ e. refl; kept = λ h. clash one_is_none h.other }

pub kept_written : (b e : Tree) → is_zero_or_one e ≡ false → IsWrittenPower b e (power b e)
kept_written b e h = record { zero = λ k. clash (ap is_zero_or_one k ∙ zero_is_none) h; one = λ k. clash (ap is_zero_or_one k ∙ one_is_none) h; kept = λ k. refl }

-- a power of a Number, where the exponent is neither 0 nor 1
pub number_written : (b t : Tree) (z : ℤ) → has_number_power b (num (whole_fraction z)) ≡ true → z ≢ pos 0 → z ≢ pos 1 → IsWrittenPower b (num (whole_fraction z)) t
number_written b t z n h k = record { zero = λ e. absurd (h (zero_exponent e)); one = λ e. absurd (k (one_exponent e)); kept = λ r. clash n r.no_number }

-- ---- which powers are Numbers

pub rational_power_is : (b e : Tree) (q : Fraction) (z : ℤ) → b ≡ num q → e ≡ num (whole_fraction z) → has_number_power b e ≡ true
rational_power_is b e q z h k = (λ i. has_number_power (h i) (k i)) ∙ number_power (num q) z (number_test (num q) tt) (few_classes (num q) z (rational_classes q))

pub inverse_power_is : (b e : Tree) (z : ℤ) → is_number b ≡ true → classes b ≤ 2 → e ≡ num (whole_fraction z) → has_number_power b e ≡ true
inverse_power_is b e z n l k = ap (has_number_power b) k ∙ number_power b z n (few_classes b z l)

pub positive_power_is : (b e : Tree) (z : ℤ) → is_number b ≡ true → pos 1 ≤ℤ z → e ≡ num (whole_fraction z) → has_number_power b e ≡ true
positive_power_is b e z h l k = grind (arith, number_power)
