-- Fractions as differences of two naturals over a third, so that their order is one of naturals.
use Rattle.std.proofs.Common.{◌≡◌, ℕ, ◌+◌, ◌*◌, ◌<◌, ◌≤◌, ℤ, pos, negsuc, suc, ◌+ℤ◌, ◌*ℤ◌, refl, sym, ap, subst, ◌∙◌, arith}
use Rattle.std.proofs.lemmas.Int.{ints}
use borrow.Author.Differences.{up, down}
use Rattle.calc_terms.specs.Fractions.{Fraction, zero_fraction, lowest, plus, times, quotient, den_pos, mul_pos, lowest_parts, plus_lowest, times_lowest}
use Rattle.enclosures.specs.Order.{AtMost}
use Rattle.enclosures.proofs.{OrderLaws.{IsDifference, own, times_pos, sum_difference, lowest_at_most, order_of}, Rounding.{term_value, signed_product, opposite_product}}

-- f is (a - b) / d
pub record HasForm (f : Fraction) (a b d : ℕ) : Type 0 where
  pub num : ℤ
  pub parts_are : IsDifference num a b
  pub positive : 0 < d
  pub form_is : f ≡ lowest num d

pub form_of : (f : Fraction) → HasForm f (up f.num) (down f.num) f.den
form_of f = record { num = f.num; parts_are = own f.num; positive = den_pos f; form_is = lowest_parts f }

pub form_lowest : (p : ℤ) (q : ℕ) → 0 < q → HasForm (lowest p q) (up p) (down p) q
form_lowest p q h = record { num = p; parts_are = own p; positive = h; form_is = refl }

pub form_quotient : (a b : ℕ) → 0 < b → HasForm (quotient a b) a 0 b
form_quotient a b h = record { num = pos a; parts_are = own (pos a); positive = h; form_is = refl }

pub form_zero : HasForm zero_fraction 0 0 1
unfolding zero_fraction
form_zero = record { num = pos 0; parts_are = own (pos 0); positive = omega arith; form_is = refl }

pub times_difference : (x : ℤ) (p n k : ℕ) → IsDifference x p n → IsDifference (x *ℤ pos k) (p * k) (n * k)
times_difference x p n k d = let e : (up x + n) * k ≡ (down x + p) * k = ap (λ y. y * k) d.parts_are in record { parts_are = omega (arith, e, (times_pos x k).parts_are) }

pub form_plus : (f g : Fraction) (a b d a' b' d' : ℕ) → HasForm f a b d → HasForm g a' b' d' → HasForm (plus f g) (a * d' + a' * d) (b * d' + b' * d) (d * d')
form_plus f g a b d a' b' d' h k = record {
  num = h.num *ℤ pos d' +ℤ k.num *ℤ pos d;
  parts_are = sum_difference _ _ _ _ _ _ (times_difference h.num a b d' h.parts_are) (times_difference k.num a' b' d k.parts_are);
  positive = mul_pos d d' h.positive k.positive;
  form_is = (λ i. plus (h.form_is i) (k.form_is i)) ∙ plus_lowest h.num k.num d d' h.positive k.positive;
}

-- a multiple of a quotient
pub form_multiple : (q : Fraction) (k u : ℕ) → 0 < u → HasForm (times q (quotient k u)) (up q.num * k) (down q.num * k) (q.den * u)
form_multiple q k u h = record { num = q.num *ℤ pos k; parts_are = times_pos q.num k; positive = mul_pos q.den u (den_pos q) h; form_is = term_value q k u h }

pub form_multiple_above : (q : Fraction) (m k u : ℕ) → 0 < u → q.num ≡ pos m → HasForm (times q (quotient k u)) (m * k) 0 (q.den * u)
form_multiple_above q m k u h e = record { num = q.num *ℤ pos k; parts_are = signed_product q.num m k e; positive = mul_pos q.den u (den_pos q) h; form_is = term_value q k u h }

pub form_multiple_below : (q : Fraction) (m k u : ℕ) → 0 < u → q.num ≡ negsuc m → HasForm (times q (quotient k u)) 0 (suc m * k) (q.den * u)
form_multiple_below q m k u h e = record { num = q.num *ℤ pos k; parts_are = opposite_product q.num m k e; positive = mul_pos q.den u (den_pos q) h; form_is = term_value q k u h }

-- no multiple
pub form_no_multiple : (k u : ℕ) → 0 < u → HasForm (times zero_fraction (quotient k u)) 0 0 (1 * u)
unfolding zero_fraction
form_no_multiple k u h = record { num = pos 0 *ℤ pos k; parts_are = record { parts_are = omega (arith, ints) }; positive = omega (arith, h); form_is = times_lowest (pos 0) (pos k) 1 u (omega arith) h }

scaled : (u n p d k : ℕ) → u + n ≡ d + p → u * k + n * k ≡ d * k + p * k
scaled u n p d k e = omega (arith, ap (λ t. t * k) e)

pub order_of_forms : (f g : Fraction) (a b d a' b' d' : ℕ) → HasForm f a b d → HasForm g a' b' d' → AtMost f g → a * d' + b' * d ≤ a' * d + b * d'
order_of_forms f g a b d a' b' d' h k l =
    let m : AtMost (lowest h.num d) (lowest k.num d') = subst (λ y. AtMost (lowest h.num d) y) k.form_is (subst (λ x. AtMost x g) h.form_is l) in
    let o = order_of h.num k.num d d' h.positive k.positive m in
    omega (arith, o, scaled (up h.num) b a (down h.num) d' h.parts_are.parts_are, scaled (up k.num) b' a' (down k.num) d k.parts_are.parts_are)

pub forms_at_most : (f g : Fraction) (a b d a' b' d' : ℕ) → HasForm f a b d → HasForm g a' b' d' → a * d' + b' * d ≤ a' * d + b * d' → AtMost f g
forms_at_most f g a b d a' b' d' h k l = subst (λ x. AtMost x g) (sym h.form_is) (subst (λ y. AtMost (lowest h.num d) y) (sym k.form_is) (lowest_at_most h.num k.num a b a' b' d d' h.parts_are k.parts_are h.positive k.positive l))
