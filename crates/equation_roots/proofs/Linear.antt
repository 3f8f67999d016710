-- Products with aX + b over whole numbers.
use Rattle.std.proofs.Common.{◌≡◌, ℕ, suc, ◌+◌, ◌-◌, ◌<◌, ℤ, pos, ◌+ℤ◌, ◌*ℤ◌, neg_ℤ, List, [], ◌∷◌, ◌++◌, map, reverse, length, get_or, refl, sym, ap, ◌∙◌, arith}
use Rattle.std.proofs.lemmas.{Int.{ints}, List.{reverse-append}}
use Rattle.calc_terms.specs.FractionLaws.{negative_lowest}
use Rattle.calc_terms.specs.Fractions.{lowest, plus, times, negative, zero_fraction, whole_fraction, mul_pos, same_lowest, plus_lowest, times_lowest}
use Rattle.calc_terms.specs.Integers.{parts, diffs, eq_diff}
use Rattle.equation_roots.specs.Coefficients.{dense_plus, times_linear}
use Rattle.equation_roots.specs.Wholes.{fractions, linear_product, leading}

pub linear-append : (a b x : ℤ) (qs : List ℤ) (q : ℤ) (rs : List ℤ) (y : ℤ) → linear_product a b x (qs ++ q ∷ rs) y ≡ linear_product a b x qs q ++ linear_product a b q rs y
linear-append a b x [] q rs y = refl
linear-append a b x (p ∷ qs) q rs y = ap (λ zs. (a *ℤ x +ℤ b *ℤ p) ∷ zs) (linear-append a b p qs q rs y)

plus_comm_int : (a b : ℤ) → a +ℤ b ≡ b +ℤ a
plus_comm_int a b = omega (arith, ints)

pub linear-reverse : (a b x : ℤ) (qs : List ℤ) (y : ℤ) → reverse (linear_product a b x qs y) ≡ linear_product b a y (reverse qs) x
linear-reverse a b x [] y = ap (λ z. z ∷ []) (plus_comm_int (a *ℤ x) (b *ℤ y))
linear-reverse a b x (q ∷ qs) y =
    reverse-append ((a *ℤ x +ℤ b *ℤ q) ∷ []) (linear_product a b q qs y)
    ∙ (λ i. linear-reverse a b q qs y i ++ (plus_comm_int (a *ℤ x) (b *ℤ q) i) ∷ [])
    ∙ sym (ap (λ zs. linear_product b a y zs x) (reverse-append (q ∷ []) qs) ∙ linear-append b a y (reverse qs) q [] x)

pub length-linear : (a b x : ℤ) (qs : List ℤ) (y : ℤ) → length (linear_product a b x qs y) ≡ length qs + 1
length-linear a b x [] y = refl
length-linear a b x (q ∷ qs) y = omega (arith, length-linear a b q qs y)

pub leading-cons : (z : ℤ) (zs : List ℤ) → 0 < length zs → leading (z ∷ zs) ≡ leading zs
leading-cons z [] h = absurd (omega (arith, h))
leading-cons z (w ∷ ws) h = refl

pub leading-linear : (a b x : ℤ) (qs : List ℤ) (y : ℤ) → leading (linear_product a b x qs y) ≡ a *ℤ leading (x ∷ qs) +ℤ b *ℤ y
leading-linear a b x [] y = refl
leading-linear a b x (q ∷ qs) y = leading-cons _ (linear_product a b q qs y) (omega (arith, length-linear a b q qs y)) ∙ leading-linear a b q qs y

pub leading-at : (zs : List ℤ) → 0 < length zs → leading zs ≡ get_or zs (length zs - 1) (pos 0)
leading-at [] h = absurd (omega (arith, h))
leading-at (z ∷ []) h = refl
leading-at (z ∷ w ∷ ws) h = leading-at (w ∷ ws) (omega arith) ∙ ap (λ k. get_or (z ∷ w ∷ ws) k (pos 0)) same
  where
    same : suc (length (w ∷ ws) - 1) ≡ length (z ∷ w ∷ ws) - 1
    same = omega arith

-- ---- as fractions

one_pos : 0 < 1
one_pos = omega arith

module _ (u x q : ℤ) (v : ℕ) (h : 0 < v) where
  entry : whole_fraction (pos v *ℤ x +ℤ neg_ℤ u *ℤ q) ≡ times (whole_fraction (pos v)) (plus (whole_fraction x) (times (negative (lowest u v)) (whole_fraction q)))
  entry = simp (plus_lowest, times_lowest, negative_lowest, mul_pos, one_pos)
      (same_lowest _ _ _ _ one_pos (mul_pos _ _ one_pos (mul_pos _ _ one_pos (mul_pos _ _ h one_pos))) (rw (parts u, parts x, parts q) (simp diffs (eq_diff _ _ _ _ (omega arith)))))

  last_entry : whole_fraction (pos v *ℤ x +ℤ neg_ℤ u *ℤ pos 0) ≡ times (whole_fraction (pos v)) (whole_fraction x)
  last_entry = simp (times_lowest, mul_pos, one_pos)
      (same_lowest _ _ _ _ one_pos (mul_pos _ _ one_pos one_pos) (rw (parts u, parts x) (simp diffs (eq_diff _ _ _ _ (omega arith)))))

linear_fractions_from : (u x : ℤ) (v : ℕ) (qs : List ℤ) → 0 < v
    → fractions (linear_product (pos v) (neg_ℤ u) x qs (pos 0)) ≡ map (times (whole_fraction (pos v))) (dense_plus (whole_fraction x ∷ fractions qs) (map (times (negative (lowest u v))) (fractions qs)))
linear_fractions_from u x v [] h = ap (λ z. z ∷ []) (last_entry u x (pos 0) v h)
linear_fractions_from u x v (q ∷ qs) h = λ i. (entry u x q v h i) ∷ linear_fractions_from u q v qs h i

-- vX - u is v times X - u/v
pub linear_fractions : (u : ℤ) (v : ℕ) (qs : List ℤ) → 0 < v
    → fractions (linear_product (pos v) (neg_ℤ u) (pos 0) qs (pos 0)) ≡ map (times (whole_fraction (pos v))) (times_linear (lowest u v) (fractions qs))
unfolding zero_fraction
linear_fractions u v qs h = linear_fractions_from u (pos 0) v qs h
