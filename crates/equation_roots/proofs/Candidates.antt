-- Candidates for rational roots.
use Rattle.std.proofs.Common.{◌≡◌, ◌≢◌, ◌⊎◌, inl, inr, ℕ, ◌<◌, ◌≤◌, ℤ, pos, negsuc, ◌+ℤ◌, ◌*ℤ◌, ◌<ℤ◌, neg_ℤ, nat_abs, Option, Some, None, MatchOption, Result, Ok, Err, IfOk, ◌^◌, true, false, List, ◌∷◌, reverse, length, refl, sym, ap, ◌∙◌, subst, arith}
use Rattle.std.proofs.lemmas.{Int.{ints, unsigned_abs-mul}, List.{reverse-reverse}}
use native.Mathlib.Nat.{dvd-mul_right}
use Prim.Native.Nat.{◌∣◌}
use Rattle.calc_terms.specs.Fractions.{Fraction, lowest, lowest_parts, den_pos, zero_fraction}
use Rattle.rational128.specs.declared.overflow.Overflow.{Overflow}
use Rattle.equation_roots.specs.{Coefficients.{value}, Told.{wholes_of}, Wholes.{IsCandidate, fractions, leading, linear_product, read}, declared.wholes.Wholes.{Wholes}}
use Rattle.equation_roots.proofs.{Linear.{leading-linear, linear-reverse}, RootQuotients.{first_divides, fraction_coprime, root_has_quotient, scaled_zero}, Wide.{handed, times_zero_int, told}}

pub positive_is : (v : ℤ) → pos 0 <ℤ v → v ≡ pos (nat_abs v)
positive_is (pos n) h = refl
positive_is (negsuc n) h = absurd (omega (arith, ints, h))

pub positive_abs : (v : ℤ) → pos 0 <ℤ v → 0 < nat_abs v
positive_abs v h = omega (arith, ints, h)

root_quotient : (u v : ℤ) (zs : List ℤ) → IsCandidate u v → 0 < length zs → value (fractions zs) (lowest u (nat_abs v)) ≡ zero_fraction → (qs : List ℤ) × (linear_product v (neg_ℤ u) (pos 0) qs (pos 0) ≡ zs)
root_quotient u v zs c l e =
    let q = root_has_quotient u (nat_abs v) zs l (positive_abs v c.positive) c.not_zero c.lowest e in
    (q.0, ap (λ a. linear_product a (neg_ℤ u) (pos 0) q.0 (pos 0)) (positive_is v c.positive) ∙ q.1)

pub forward_root : (o : Option Wholes) (u v : ℤ) (zs : List ℤ) → IsCandidate u v → 0 < length zs
    → MatchOption o ((qs : List ℤ) → linear_product v (neg_ℤ u) (pos 0) qs (pos 0) ≢ read false zs) (λ q. linear_product v (neg_ℤ u) (pos 0) (read false (wholes_of q)) (pos 0) ≡ read false zs)
    → MatchOption o (value (fractions zs) (lowest u (nat_abs v)) ≢ zero_fraction) (λ q. linear_product v (neg_ℤ u) (pos 0) (wholes_of q) (pos 0) ≡ zs)
forward_root None u v zs c l h = λ e. let q = root_quotient u v zs c l e in h q.0 q.1
forward_root (Some q) u v zs c l h = h

pub backward_root : (o : Option Wholes) (u v : ℤ) (zs : List ℤ) → IsCandidate u v → 0 < length zs
    → MatchOption o ((qs : List ℤ) → linear_product (neg_ℤ u) v (pos 0) qs (pos 0) ≢ read true zs) (λ q. linear_product (neg_ℤ u) v (pos 0) (read true (wholes_of q)) (pos 0) ≡ read true zs)
    → MatchOption o (value (fractions zs) (lowest u (nat_abs v)) ≢ zero_fraction) (λ q. linear_product v (neg_ℤ u) (pos 0) (wholes_of q) (pos 0) ≡ zs)
backward_root None u v zs c l h = λ e.
    let q = root_quotient u v zs c l e in
    h (reverse q.0) (sym (linear-reverse v (neg_ℤ u) (pos 0) q.0 (pos 0)) ∙ ap reverse q.1)
backward_root (Some q) u v zs c l h =
    sym (reverse-reverse (linear_product v (neg_ℤ u) (pos 0) (wholes_of q) (pos 0))) ∙ ap reverse (linear-reverse v (neg_ℤ u) (pos 0) (wholes_of q) (pos 0) ∙ h) ∙ reverse-reverse zs

pub forward_result : (x : Result (Option Wholes) Overflow) (a b u v : ℤ) (zs : List ℤ) → a ≡ v → b ≡ neg_ℤ u → IsCandidate u v → 0 < length zs
    → IfOk x (λ o. MatchOption o ((qs : List ℤ) → linear_product a b (pos 0) qs (pos 0) ≢ read false zs) (λ q. linear_product a b (pos 0) (read false (wholes_of q)) (pos 0) ≡ read false zs))
    → IfOk x (λ o. MatchOption o (value (fractions zs) (lowest u (nat_abs v)) ≢ zero_fraction) (λ q. linear_product v (neg_ℤ u) (pos 0) (wholes_of q) (pos 0) ≡ zs))
forward_result (Err e) a b u v zs d f c l h = tt
forward_result (Ok o) a b u v zs d f c l h = forward_root o u v zs c l (rw (d, f) at h)

pub backward_result : (x : Result (Option Wholes) Overflow) (a b u v : ℤ) (zs : List ℤ) → a ≡ neg_ℤ u → b ≡ v → IsCandidate u v → 0 < length zs
    → IfOk x (λ o. MatchOption o ((qs : List ℤ) → linear_product a b (pos 0) qs (pos 0) ≢ read true zs) (λ q. linear_product a b (pos 0) (read true (wholes_of q)) (pos 0) ≡ read true zs))
    → IfOk x (λ o. MatchOption o (value (fractions zs) (lowest u (nat_abs v)) ≢ zero_fraction) (λ q. linear_product v (neg_ℤ u) (pos 0) (wholes_of q) (pos 0) ≡ zs))
backward_result (Err e) a b u v zs d f c l h = tt
backward_result (Ok o) a b u v zs d f c l h = backward_root o u v zs c l (rw (d, f) at h)

pub small_fits : (n : ℕ) → n ≤ 1000 → n < 2 ^ 127
small_fits n h = omega arith

-- ---- which fractions are roots

pub sign_of : (z : ℤ) (u : ℕ) → nat_abs z ≡ u → (z ≡ pos u) ⊎ (z ≡ neg_ℤ (pos u))
sign_of (pos n) u h = inl (ap pos h)
sign_of (negsuc n) u h = inr (ap (λ m. neg_ℤ (pos m)) h)

pub parts_are : (r : Fraction) (v : ℕ) (z : ℤ) → r.den ≡ v → r.num ≡ z → r ≡ lowest z v
parts_are r v z d n = lowest_parts r ∙ (λ i. lowest (n i) (d i))

-- the denominator of a root divides the leading coefficient
pub denominator_divides : (r : Fraction) (zs : List ℤ) → 0 < length zs → r.num ≢ pos 0 → value (fractions zs) r ≡ zero_fraction → r.den ∣ nat_abs (leading zs)
denominator_divides r zs l n e =
    let q = root_has_quotient r.num r.den zs l (den_pos r) n (fraction_coprime r) (ap (value (fractions zs)) (sym (lowest_parts r)) ∙ e) in
    subst (λ m. r.den ∣ m) (sym (ap (λ ws. nat_abs (leading ws)) (sym q.1) ∙ ap nat_abs (leading-linear (pos r.den) (neg_ℤ r.num) (pos 0) q.0 (pos 0) ∙ plus_none _ r.num) ∙ unsigned_abs-mul (pos r.den) (leading (pos 0 ∷ q.0))))
    (dvd-mul_right r.den (nat_abs (leading (pos 0 ∷ q.0))))
  where
    plus_none : (a u : ℤ) → a +ℤ neg_ℤ u *ℤ pos 0 ≡ a
    plus_none a u = let z : neg_ℤ u *ℤ pos 0 ≡ pos 0 = times_zero_int (neg_ℤ u) in omega (arith, ints)

-- its numerator divides the constant
pub numerator_divides : (r : Fraction) (z : ℤ) (zs : List ℤ) → value (fractions (z ∷ zs)) r ≡ zero_fraction → nat_abs r.num ∣ nat_abs z
numerator_divides r z zs e = first_divides r.num r.den z zs (fraction_coprime r) (scaled_zero r.num r.den (z ∷ zs) (den_pos r) (ap (value (fractions (z ∷ zs))) (sym (lowest_parts r)) ∙ e))

-- ---- what a division answers, as the numbers are handed on

abbrev pub Divided : Option Wholes → ℤ → ℤ → List ℤ → Type 0
Divided o u v zs = MatchOption o (value (fractions zs) (lowest u (nat_abs v)) ≢ zero_fraction) (λ q. linear_product v (neg_ℤ u) (pos 0) (wholes_of q) (pos 0) ≡ zs)

divided_to : (o : Option Wholes) (q : Wholes) (u v : ℤ) (zs : List ℤ) → Divided o u v zs → o ≡ Some q → linear_product v (neg_ℤ u) (pos 0) (wholes_of q) (pos 0) ≡ zs
divided_to None q u v zs h e = cc
divided_to (Some x) q u v zs h e = let same : x ≡ q = cc in subst (λ (y : Wholes). linear_product v (neg_ℤ u) (pos 0) (wholes_of y) (pos 0) ≡ zs) same h

pub divided_some : (o : Option Wholes) (q : Wholes) (u v : ℤ) (zs : List ℤ) → IsCandidate u v → Divided o (handed u) (handed v) zs → o ≡ Some q → linear_product v (neg_ℤ u) (pos 0) (wholes_of q) (pos 0) ≡ zs
divided_some o q u v zs c h e =
    divided_to o q u v zs (subst (λ y. Divided o y v zs) (told u (small_fits _ c.numerator)) (subst (λ y. Divided o (handed u) y zs) (told v (small_fits _ c.denominator)) h)) e
