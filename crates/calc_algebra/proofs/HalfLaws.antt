-- Halves of odd whole numbers: fractions whose denominator is 2.
use Rattle.calc_algebra.proofs.Shared.{◌≡◌, ℕ, ◌%◌, ◌/◌, true, false, ◌==◌, ℤ, pos, negsuc, ◌+ℤ◌, ◌*ℤ◌, refl, ap, ◌∙◌, arith, nat_abs, nat_lt, eqb-true, eq-eqb}
use Rattle.calc_algebra.proofs.Shared.{ints, Fraction, lowest, Holds, held, is_lowest, lowest_parts, same_lowest, plus, plus_lowest, times, times_lowest, whole_fraction, gcd, gcd_in, int_is_even}

gcd_two : (a r : ℕ) → a % 2 ≡ r → gcd a 2 ≡ gcd_in 1 2 r
unfolding gcd
gcd_two a r e = ap (gcd_in 1 2) e

pub one_is_not_two : (a b : ℕ) → a ≡ 1 → b ≡ 2 → a ≡ b → ⊥
one_is_not_two a b h k e = absurd (omega arith)

-- a numerator over 2 is odd
pub half_is_odd : (h : Fraction) → h.den ≡ 2 → int_is_even h.num ≡ false
half_is_odd h d = grind (arith, one_is_not_two, gcd_two)

pub odd_holds : (n : ℤ) → int_is_even n ≡ false → Holds (is_lowest n 2)
odd_holds n o =
    let one : nat_abs n % 2 ≡ 1 = grind arith in
    held (nat_lt 0 2) (gcd (nat_abs n) 2 == 1) refl (eq-eqb (gcd (nat_abs n) 2) 1 (gcd_two (nat_abs n) 1 one))

-- half of an odd number
abbrev pub half_of : (n : ℤ) → int_is_even n ≡ false → Fraction
half_of n o = record { num = n; den = 2; lowest = odd_holds n o }

pub half_of_is : (n : ℤ) (o : int_is_even n ≡ false) → half_of n o ≡ lowest n 2
half_of_is n o = lowest_parts (half_of n o)

pub half_parts : (h : Fraction) → h.den ≡ 2 → h ≡ lowest h.num 2
half_parts h d = lowest_parts h ∙ ap (lowest h.num) d

-- an even number is twice another
pub even_split : (n : ℤ) → int_is_even n ≡ true → (k : ℤ) × (n ≡ k +ℤ k)
even_split (pos n) h = let e : n % 2 ≡ 0 = eqb-true (n % 2) 0 h in (pos (n / 2), omega (arith, ints))
even_split (negsuc n) h = let e : n % 2 ≡ 1 = eqb-true (n % 2) 1 h in (negsuc (n / 2), omega (arith, ints))

-- ---- sums and products of halves

pub half_whole : (n k : ℤ) → n ≡ k +ℤ k → lowest n 2 ≡ whole_fraction k
half_whole n k e = same_lowest n k 2 1 (omega arith) (omega arith) (omega (arith, ints, e))

pub whole_plus_half : (m n : ℤ) → plus (whole_fraction m) (lowest n 2) ≡ lowest (pos 2 *ℤ m +ℤ n) 2
whole_plus_half m n = grind (arith, plus_lowest, ints)

pub half_plus_half : (m n : ℤ) → plus (lowest m 2) (lowest n 2) ≡ lowest (m +ℤ n) 2
half_plus_half m n =
    plus_lowest m n 2 2 (omega arith) (omega arith)
    ∙ same_lowest (m *ℤ pos 2 +ℤ n *ℤ pos 2) (m +ℤ n) 4 2 (omega arith) (omega arith) (omega (arith, ints))

pub half_times_whole : (m n : ℤ) → times (lowest m 2) (whole_fraction n) ≡ lowest (m *ℤ n) 2
half_times_whole m n = times_lowest m n 2 1 (omega arith) (omega arith)
