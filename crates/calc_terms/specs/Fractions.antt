-- Fractions: always in lowest terms, so that equal fractions are one.
use Rattle.std.specs.{Prelude.{ℕ, zero, suc, ◌*◌, ◌/◌, ◌≡◌, ◌<◌, ℤ, pos, negsuc, ◌+ℤ◌, ◌*ℤ◌, neg_ℤ, nat_abs, Bool, true, false, ◌&&◌, nat_lt, ◌==◌}, Int.{IsGcd}, Ordering.{int_cmp}}
use Rattle.std.specs.declared.cmp.Ordering.{Ordering}
use Rattle.std.proofs.{Common.{refl, arith, sym, ap, ◌∙◌, subst}, lemmas.Bool.{lt-ltb, eq-eqb, ltb-true, eqb-true}, lemmas.Nat.Gcd.{same_from_IsGcd}}
use native.Mathlib.Nat.{div-mul_cancel, pos_of_dvd_of_pos, zero-mul}
use Prim.Native.Nat.{◌∣◌}
use mathlib.Core.HLevel.{is_prop→PathP}
use Rattle.calc_terms.specs.{Gcd.{gcd, gcd_is, divided, lowest_den}, Integers.{int_is_zero, int_is_one, parts, diffs, eq_diff, combine, cancel_pos}}

-- the test holds, as a fact with one proof
abbrev pub Holds : Bool → Type 0
Holds true = Unit {0}
Holds false = ⊥

pub Holds_prop : (b : Bool) → IsProp (Holds b)
Holds_prop true = λ x y. refl
Holds_prop false = λ x. absurd x

pub held : (a b : Bool) → a ≡ true → b ≡ true → Holds (a && b)
held a b p q = rw (p, q) tt

pub first_held : (a b : Bool) → Holds (a && b) → a ≡ true
first_held true b h = refl
first_held false b h = absurd h

pub second_held : (a b : Bool) → Holds (a && b) → b ≡ true
second_held true true h = refl
second_held true false h = absurd h
second_held false b h = absurd h

-- q is at least 1, and p and q have no common divisor but 1
abbrev pub is_lowest : ℤ → ℕ → Bool
is_lowest p q = nat_lt 0 q && (gcd (nat_abs p) q == 1)

-- numerator and denominator in lowest terms, 0/1 for zero
pub record Fraction : Type 0 where
  pub num : ℤ
  pub den : ℕ
  pub lowest : Holds (is_lowest num den)

-- p/g, where g divides it
abbrev pub over : ℤ → ℕ → ℤ
over (pos n) g = pos (n / g)
over (negsuc n) g = neg_ℤ (pos (suc n / g))

neg_abs : (n : ℕ) → nat_abs (neg_ℤ (pos n)) ≡ n
neg_abs zero = refl
neg_abs (suc n) = refl

pub over_abs : (p : ℤ) (g : ℕ) → nat_abs (over p g) ≡ nat_abs p / g
over_abs (pos n) g = refl
over_abs (negsuc n) g = neg_abs (suc n / g)

gcd_pos : (a b : ℕ) → 0 < b → 0 < gcd a b
gcd_pos a b h = pos_of_dvd_of_pos ((gcd_is a b).1) h

pub lowest_holds : (p : ℤ) (q : ℕ) → Holds (is_lowest (over p (gcd (nat_abs p) (suc q))) (suc q / gcd (nat_abs p) (suc q)))
lowest_holds p q =
    held _ _ (lt-ltb 0 _ positive) (eq-eqb _ 1 (ap (λ n. gcd n (suc q / g)) (over_abs p g) ∙ same_from_IsGcd _ _ _ _ (gcd_is _ _) (divided _ _ g (gcd_pos _ _ (omega arith)) is)))
  where
    g : ℕ
    g = gcd (nat_abs p) (suc q)

    is : IsGcd (nat_abs p) (suc q) g
    is = gcd_is (nat_abs p) (suc q)

    whole : (suc q / g) * g ≡ suc q
    whole = div-mul_cancel g (is.1)

    nonzero : (x : ℕ) → x * g ≡ suc q → 0 < x
    nonzero zero e = absurd (omega arith)
    nonzero (suc x) e = omega arith

    positive : 0 < suc q / g
    positive = nonzero _ whole

pub zero_holds : Holds (is_lowest (pos 0) 1)
unfolding gcd
zero_holds = tt

-- p/q in lowest terms, and 0 where q is 0
unfoldable pub lowest : ℤ → ℕ → Fraction
lowest p zero = record { num = pos 0; den = 1; lowest = zero_holds }
lowest p (suc q) = record { num = over p (gcd (nat_abs p) (suc q)); den = suc q / gcd (nat_abs p) (suc q); lowest = lowest_holds p q }

-- ---- arithmetic, as in school

-- a/b + c/d = (ad + cb)/(bd)
unfoldable pub plus : Fraction → Fraction → Fraction
plus a b = lowest (a.num *ℤ pos b.den +ℤ b.num *ℤ pos a.den) (a.den * b.den)

-- (a/b)(c/d) = (ac)/(bd)
unfoldable pub times : Fraction → Fraction → Fraction
times a b = lowest (a.num *ℤ b.num) (a.den * b.den)

unfoldable pub negative : Fraction → Fraction
negative a = lowest (neg_ℤ a.num) a.den

unfoldable pub zero_fraction : Fraction
zero_fraction = lowest (pos 0) 1

unfoldable pub one_fraction : Fraction
one_fraction = lowest (pos 1) 1

-- the whole number n
abbrev pub whole_fraction : ℤ → Fraction
whole_fraction n = lowest n 1

abbrev pub minus_one_fraction : Fraction
minus_one_fraction = whole_fraction (negsuc 0)

-- t/s
abbrev pub quotient : ℕ → ℕ → Fraction
quotient t s = lowest (pos t) s

abbrev pub is_zero_fraction : Fraction → Bool
is_zero_fraction q = int_is_zero q.num

abbrev pub is_one_fraction : Fraction → Bool
is_one_fraction q = int_is_one q.num && (q.den == 1)

-- d/n for n/d
abbrev pub inverse_of : ℤ → ℕ → Fraction
inverse_of (pos n) d = lowest (pos d) n
inverse_of (negsuc n) d = lowest (neg_ℤ (pos d)) (suc n)

-- 1/a, where a is not zero
abbrev pub inverse : Fraction → Fraction
inverse a = inverse_of a.num a.den

-- by value
abbrev pub fraction_cmp : Fraction → Fraction → Ordering
fraction_cmp p q = int_cmp (p.num *ℤ pos q.den) (q.num *ℤ pos p.den)

-- ---- equal cross products make one fraction

pub den_pos : (a : Fraction) → 0 < a.den
den_pos a = ltb-true 0 _ (first_held _ _ a.lowest)

coprime : (a : Fraction) → IsGcd (nat_abs a.num) a.den 1
coprime a = subst (λ g. IsGcd (nat_abs a.num) a.den g) (eqb-true _ 1 (second_held _ _ a.lowest)) (gcd_is (nat_abs a.num) a.den)

pub fraction_path : (a b : Fraction) → a.num ≡ b.num → a.den ≡ b.den → a ≡ b
fraction_path a b p q = λ i. record { num = p i; den = q i; lowest = is_prop→PathP (λ j. Holds (is_lowest (p j) (q j))) (λ j. Holds_prop (is_lowest (p j) (q j))) a.lowest b.lowest i }

abs_times : (a : ℤ) (n : ℕ) → nat_abs (a *ℤ pos n) ≡ nat_abs a * n
abs_times (pos m) n = refl
abs_times (negsuc m) n = neg_abs (suc m * n)

pub same_fraction : (a b : Fraction) → a.num *ℤ pos b.den ≡ b.num *ℤ pos a.den → a ≡ b
same_fraction a b e = fraction_path a b nums dens
  where
    dens : a.den ≡ b.den
    dens = lowest_den _ _ _ _ (coprime a) (coprime b) (sym (abs_times a.num b.den) ∙ ap nat_abs e ∙ abs_times b.num a.den)

    nums : a.num ≡ b.num
    nums = cancel_pos a.num b.num a.den (den_pos a) (ap (λ n. a.num *ℤ pos n) dens ∙ e)

pub over_back : (p : ℤ) (g : ℕ) → g ∣ nat_abs p → over p g *ℤ pos g ≡ p
over_back (pos n) g h = ap pos (div-mul_cancel g h)
over_back (negsuc n) g h = neg_times (suc n / g) g ∙ ap (λ m. neg_ℤ (pos m)) (div-mul_cancel g h)
  where
    neg_times : (m g : ℕ) → neg_ℤ (pos m) *ℤ pos g ≡ neg_ℤ (pos (m * g))
    neg_times zero g = rw zero-mul refl
    neg_times (suc m) g = refl

pub scaled_cross : (x p : ℤ) (d q g : ℕ) → x *ℤ pos g ≡ p → d * g ≡ q → x *ℤ pos q ≡ p *ℤ pos d
scaled_cross x p d q g e f = rw (← e, ← f, parts x) (simp diffs (eq_diff _ _ _ _ (omega arith)))

pub lowest_cross : (p : ℤ) (q : ℕ) → 0 < q → (lowest p q).num *ℤ pos q ≡ p *ℤ pos (lowest p q).den
unfolding lowest
lowest_cross p zero h = absurd (omega arith)
lowest_cross p (suc q) h =
    let g : ℕ = gcd (nat_abs p) (suc q) in
    let is : IsGcd (nat_abs p) (suc q) g = gcd_is (nat_abs p) (suc q) in
    scaled_cross _ p _ (suc q) g (over_back p g (is.0)) (div-mul_cancel g (is.1))

pub mul_pos : (q s : ℕ) → 0 < q → 0 < s → 0 < q * s
mul_pos q s h k = grind arith

chase : (x y : ℤ) (d c : ℕ) (p r : ℤ) (q s : ℕ) → 0 < q → 0 < s → x *ℤ pos q ≡ p *ℤ pos d → y *ℤ pos s ≡ r *ℤ pos c → p *ℤ pos s ≡ r *ℤ pos q → x *ℤ pos c ≡ y *ℤ pos d
chase x y d c p r q s hq hs e f g = cancel_pos _ _ (q * s) (mul_pos q s hq hs)
    (combine _ _ (pos (c * s)) _ _ (combine _ _ (pos (d * c)) _ _ (combine _ _ (pos (d * q)) _ _
    (rw (parts x, parts y, parts p, parts r) (simp diffs (eq_diff _ _ _ _ (omega arith)))) (sym f)) g) e)

pub same_lowest : (p r : ℤ) (q s : ℕ) → 0 < q → 0 < s → p *ℤ pos s ≡ r *ℤ pos q → lowest p q ≡ lowest r s
same_lowest p r q s hq hs e = same_fraction _ _ (chase _ _ _ _ p r q s hq hs (lowest_cross p q hq) (lowest_cross r s hs) e)

pub lowest_parts : (a : Fraction) → a ≡ lowest a.num a.den
lowest_parts a = same_fraction _ _ (sym (lowest_cross a.num a.den (den_pos a)))

sum_cross : (x y : ℤ) (d c : ℕ) (p r : ℤ) (q s : ℕ) → x *ℤ pos q ≡ p *ℤ pos d → y *ℤ pos s ≡ r *ℤ pos c → (x *ℤ pos c +ℤ y *ℤ pos d) *ℤ pos (q * s) ≡ (p *ℤ pos s +ℤ r *ℤ pos q) *ℤ pos (d * c)
sum_cross x y d c p r q s e f =
    combine _ _ (pos (c * s)) _ _ (combine _ _ (pos (d * q)) _ _
    (rw (parts x, parts y, parts p, parts r) (simp diffs (eq_diff _ _ _ _ (omega arith)))) f) e

product_cross : (x y : ℤ) (d c : ℕ) (p r : ℤ) (q s : ℕ) → x *ℤ pos q ≡ p *ℤ pos d → y *ℤ pos s ≡ r *ℤ pos c → (x *ℤ y) *ℤ pos (q * s) ≡ (p *ℤ r) *ℤ pos (d * c)
product_cross x y d c p r q s e f =
    combine _ _ (y *ℤ pos s) _ _ (combine _ _ (p *ℤ pos d) _ _
    (rw (parts x, parts y, parts p, parts r) (simp diffs (eq_diff _ _ _ _ (omega arith)))) f) e

pub plus_lowest : (p r : ℤ) (q s : ℕ) → 0 < q → 0 < s → plus (lowest p q) (lowest r s) ≡ lowest (p *ℤ pos s +ℤ r *ℤ pos q) (q * s)
unfolding plus
plus_lowest p r q s hq hs = same_lowest _ _ _ _ (mul_pos _ _ (den_pos (lowest p q)) (den_pos (lowest r s))) (mul_pos q s hq hs)
    (sum_cross _ _ _ _ p r q s (lowest_cross p q hq) (lowest_cross r s hs))

pub times_lowest : (p r : ℤ) (q s : ℕ) → 0 < q → 0 < s → times (lowest p q) (lowest r s) ≡ lowest (p *ℤ r) (q * s)
unfolding times
times_lowest p r q s hq hs = same_lowest _ _ _ _ (mul_pos _ _ (den_pos (lowest p q)) (den_pos (lowest r s))) (mul_pos q s hq hs)
    (product_cross _ _ _ _ p r q s (lowest_cross p q hq) (lowest_cross r s hs))

pub plus_comm : (a b : Fraction) → plus a b ≡ plus b a
unfolding plus
plus_comm a b = same_lowest _ _ _ _ (mul_pos _ _ (den_pos a) (den_pos b)) (mul_pos _ _ (den_pos b) (den_pos a))
    (rw (parts (a.num), parts (b.num)) (simp diffs (eq_diff _ _ _ _ (omega arith))))

module _ (p r t : ℤ) (q s u : ℕ) (hq : 0 < q) (hs : 0 < s) (hu : 0 < u) where
  assoc_lowest : plus (plus (lowest p q) (lowest r s)) (lowest t u) ≡ plus (lowest p q) (plus (lowest r s) (lowest t u))
  assoc_lowest = simp (plus_lowest, mul_pos) (same_lowest _ _ _ _ (mul_pos _ _ (mul_pos _ _ hq hs) hu) (mul_pos _ _ hq (mul_pos _ _ hs hu)) (rw (parts p, parts r, parts t) (simp diffs (eq_diff _ _ _ _ (omega arith)))))

pub plus_assoc : (a b c : Fraction) → plus (plus a b) c ≡ plus a (plus b c)
plus_assoc a b c = rw (lowest_parts a, lowest_parts b, lowest_parts c) (assoc_lowest _ _ _ _ _ _ (den_pos a) (den_pos b) (den_pos c))
