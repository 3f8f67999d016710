-- Inverses: of one term, of two terms that are not alike, of products and powers, and which surds have one.
use Rattle.calc_algebra.proofs.Shared.{◌≡◌, ◌≢◌, ℕ, zero, suc, ◌*◌, ◌<◌, ◌≤◌, ℤ, pos, negsuc, ◌*ℤ◌, ◌∷◌, Bool, true, false, length, refl, sym, ap, ◌∙◌, arith, nat_abs, ints, not_from_false, []}
use Rattle.calc_algebra.proofs.Shared.{IsShort, negative_lowest, times_comm, times_assoc, times_plus, zero_plus, zero_times, one_times, plus_negative, Fraction, lowest, plus, times, negative, inverse}
use Rattle.calc_algebra.proofs.Shared.{inverse_of, zero_fraction, one_fraction, is_zero_fraction, plus_comm, plus_assoc, same_lowest, lowest_parts, den_pos, plus_lowest, times_lowest, mul_pos}
use Rattle.calc_algebra.proofs.Shared.{quotient, whole_fraction, gcd, int_is_zero, parts, diffs, eq_diff, are_alike, Same, Inverts, square_root, Surd, term, surd_of, surd_one, surd_times, surd_power}
use Rattle.calc_algebra.proofs.{Shared.{zero_is, no_zero, cross_products, mul-one}, MeaningLaws.{class_coefficient-surd_of, Same-sym}, SquareClassLaws.{Alike, alike_from, alike_true, Same-Agree}}
use Rattle.calc_algebra.proofs.{SquareClassLaws.{Same-trans}, SquareRootLaws.{square_from_scaled}, SurdLaws.{Agree-sym, Agree-trans, Agree-eq, Agree-Same, Agree-surd_times}}
use Rattle.calc_terms.proofs.SmallLaws.{positive_factor as factor_pos}
use Rattle.calc_algebra.proofs.{SurdLaws.{Agree-surd_times_right, one_inverse, inverse_times, inverse_power, surd_times_comm, surd_times-nil, times_zero}, TermLaws.{Same-refl, Same-eq, Same-append}}
use Rattle.calc_algebra.proofs.TermLaws.{extracted, joined_radicand, zero_term, zero_radicand}

-- ---- inverses of fractions

one_over : (p : ℤ) (q : ℕ) → 0 < q → (p ≡ pos 0 → ⊥) → times (inverse_of p q) (lowest p q) ≡ one_fraction
unfolding one_fraction
one_over (pos zero) q h n = absurd (n refl)
one_over (pos (suc n)) q h z = times_lowest (pos q) (pos (suc n)) (suc n) q (omega arith) h ∙ same_lowest _ (pos 1) _ 1 (mul_pos (suc n) q (omega arith) h) (omega arith) (ap pos (omega arith))
one_over (negsuc n) zero h z = absurd (omega arith)
one_over (negsuc n) (suc m) h z = times_lowest (negsuc m) (negsuc n) (suc n) (suc m) (omega arith) h ∙ same_lowest _ (pos 1) _ 1 (mul_pos (suc n) (suc m) (omega arith) h) (omega arith) (ap pos (omega arith))

-- 1/a times a is 1, where a is not 0
pub inverse_times_itself : (a : Fraction) → a ≢ zero_fraction → times (inverse a) a ≡ one_fraction
inverse_times_itself a h = ap (times (inverse a)) (lowest_parts a) ∙ one_over a.num a.den (den_pos a) (λ e. h (zero_is a (ap int_is_zero e)))

ruleset fractions = (plus_lowest, times_lowest, negative_lowest, mul_pos)

module _ (p r : ℤ) (q s : ℕ) (hq : 0 < q) (hs : 0 < s) where
  negative_times_in : times (negative (lowest p q)) (lowest r s) ≡ negative (times (lowest p q) (lowest r s))
  negative_times_in = simp fractions (same_lowest _ _ _ _ (mul_pos _ _ hq hs) (mul_pos _ _ hq hs) (rw (parts p, parts r) (simp diffs (eq_diff _ _ _ _ (omega arith)))))

pub negative_times : (a b : Fraction) → times (negative a) b ≡ negative (times a b)
negative_times a b = rw (lowest_parts a, lowest_parts b) (negative_times_in _ _ _ _ (den_pos a) (den_pos b))

-- a - b is 0 only for equal fractions
pub same_from_difference : (a b : Fraction) → plus a (negative b) ≡ zero_fraction → a ≡ b
same_from_difference a b e =
    sym (zero_plus a) ∙ plus_comm zero_fraction a ∙ ap (plus a) (sym (plus_comm (negative b) b ∙ plus_negative b))
    ∙ sym (plus_assoc a (negative b) b) ∙ ap (λ x. plus x b) e ∙ zero_plus b

-- a product that is 1 has no factor 0
pub factor_not_zero : (a b : Fraction) → times a b ≡ one_fraction → b ≢ zero_fraction
unfolding zero_fraction one_fraction lowest gcd
factor_not_zero a b e z = let f : zero_fraction ≡ one_fraction = sym (times_zero a) ∙ ap (times a) (sym z) ∙ e in let g : pos 0 ≡ pos 1 = ap (λ x. x.num) f in cc

-- ---- inverses of surds

pub Inverts-sym : (y w : Surd) → Inverts y w → Inverts w y
Inverts-sym y w h = Agree-Same (Agree-trans (surd_times_comm w y) (Same-Agree h))

pub Inverts-Same : {y y' w w' : Surd} → Same y y' → Same w w' → Inverts y w → Inverts y' w'
Inverts-Same h k i = Agree-Same (Agree-trans (Agree-sym (Agree-surd_times (Same-Agree h) (Same-Agree k))) (Same-Agree i))

-- the inverse of a product
pub Inverts-surd_times : (y w z u : Surd) → Inverts y w → Inverts z u → Inverts (surd_times y z) (surd_times w u)
Inverts-surd_times y w z u h k = Agree-Same (inverse_times y w z u (Same-Agree h) (Same-Agree k))

-- the inverse of 1
pub Inverts-surd_one : Inverts surd_one surd_one
unfolding one_fraction
Inverts-surd_one = Same-eq (λ i. term (one_times one_fraction i) 1 ∷ [])

-- the inverse of a power
pub Inverts-surd_power : (n : ℕ) (y w : Surd) → Inverts y w → Inverts (surd_power y n) (surd_power w n)
Inverts-surd_power n y w h = grind (arith, Inverts-surd_one, Agree-Same, inverse_power, Same-Agree)

-- two inverses of the same surd are the same
pub Inverts-one : (y z w : Surd) → Inverts y w → Inverts z w → Same y z
Inverts-one y z w h k = Agree-Same (one_inverse y z w (Same-Agree h) (Same-Agree k))

pub zero_is_not_one : zero_fraction ≡ one_fraction → ⊥
unfolding zero_fraction one_fraction lowest gcd
zero_is_not_one e = let f : pos 0 ≡ pos 1 = ap (λ q. q.num) e in cc

pub one_is_not_zero : ¬ (Same surd_one [])
one_is_not_zero h = zero_is_not_one (sym ((Same-Agree h).at 1) ∙ class_coefficient-surd_of one_fraction)

pub Same-times_zero : (y w : Surd) → Same w [] → Same (surd_times y w) []
Same-times_zero y w h = Agree-Same (Agree-trans (Agree-surd_times_right y (Same-Agree h)) (Agree-eq (surd_times-nil y)))

-- what has an inverse is not zero
pub Inverts-not_zero : (y w : Surd) → Inverts y w → ¬ (Same w [])
Inverts-not_zero y w i h = one_is_not_zero (Same-trans (Same-sym i) (Same-times_zero y w h))

-- ---- one term

-- a rational
pub Inverts-surd_of : (a m : Fraction) → times m a ≡ one_fraction → Inverts (surd_of m) (surd_of a)
Inverts-surd_of a m e = Same-eq (ap (λ q. term q 1 ∷ []) e)

root_squared : (q : Fraction) (r : ℕ) → Same (term q (r * r) ∷ []) (surd_of (times q (whole_fraction (pos r))))
root_squared q r = extracted q (r * r) r 1 (omega arith)

-- 1/(a * √r) is m * √r, where m is 1/(a * r)
pub Inverts-term : (a m : Fraction) (r : ℕ) → times m (times a (whole_fraction (pos r))) ≡ one_fraction → Inverts (term m r ∷ []) (term a r ∷ [])
Inverts-term a m r e = Same-trans (root_squared (times m a) r) (Same-eq (ap surd_of (times_assoc m a (whole_fraction (pos r)) ∙ e)))

whole_zero : (r : ℕ) → 0 < r → whole_fraction (pos r) ≡ zero_fraction → ⊥
unfolding zero_fraction
whole_zero zero h e = absurd (omega arith)
whole_zero (suc r) h e = let f : pos (suc r * 1) ≡ pos (0 * 1) = cross_products (pos (suc r)) (pos 0) 1 1 (omega arith) (omega arith) e in absurd (omega (arith, ints))

pub product_not_zero : (a b : Fraction) → a ≢ zero_fraction → b ≢ zero_fraction → times a b ≢ zero_fraction
product_not_zero a b h k e =
    h (sym (one_times a) ∙ times_comm one_fraction a ∙ ap (times a) (sym (times_comm b (inverse b) ∙ inverse_times_itself b k)) ∙ sym (times_assoc a b (inverse b)) ∙ ap (λ x. times x (inverse b)) e ∙ zero_times (inverse b))

pub term_not_zero : (a : Fraction) (r : ℕ) → a ≢ zero_fraction → 0 < r → times a (whole_fraction (pos r)) ≢ zero_fraction
term_not_zero a r h k = product_not_zero a (whole_fraction (pos r)) h (whole_zero r k)

-- 1/(a * r) * √r
abbrev pub inverse_of_term : Fraction → ℕ → Surd
inverse_of_term a r = term (inverse (times a (whole_fraction (pos r)))) r ∷ []

-- each nonzero term has its inverse
pub term_has_inverse : (a : Fraction) (r : ℕ) → a ≢ zero_fraction → 0 < r → Inverts (inverse_of_term a r) (term a r ∷ [])
term_has_inverse a r h k = Inverts-term a _ r (inverse_times_itself (times a (whole_fraction (pos r))) (term_not_zero a r h k))

-- ---- two terms

-- a * a * r - b * b * s
abbrev pub square_difference : Fraction → ℕ → Fraction → ℕ → Fraction
square_difference a r b s = plus (times (times a a) (whole_fraction (pos r))) (negative (times (times b b) (whole_fraction (pos s))))

middle_goes : (a b m : Fraction) → plus (times (times a m) b) (times (times (negative b) m) a) ≡ zero_fraction
middle_goes a b m = grind (arith, plus_negative, times_assoc, times_comm, negative_times)

ends_join : (a b m x y : Fraction) → plus (times (times (times a m) a) x) (times (times (times (negative b) m) b) y) ≡ times m (plus (times (times a a) x) (negative (times (times b b) y)))
ends_join a b m x y = grind (arith, times_plus, times_comm, times_assoc, negative_times)

-- 1/(a * √r + b * √s) is a * m * √r - b * m * √s, where m is 1/(a * a * r - b * b * s)
pub Inverts-terms : (a b m : Fraction) (r s : ℕ) → times m (square_difference a r b s) ≡ one_fraction
    → Inverts (term (times a m) r ∷ term (times (negative b) m) s ∷ []) (term a r ∷ term b s ∷ [])
Inverts-terms a b m r s e =
    let x : Fraction = whole_fraction (pos r) in
    let y : Fraction = whole_fraction (pos s) in
    let c : Fraction = times (times a m) a in
    let d : Fraction = times (times (negative b) m) b in
    let turned : s * r ≡ r * s = omega arith in
    Same-trans
    (Same-append {v = term c (r * r) ∷ []} {v' = surd_of (times c x)} (root_squared c r)
    (Same-append {v = term (times (times a m) b) (r * s) ∷ term (times (times (negative b) m) a) (s * r) ∷ []} {v' = []}
    (Same-trans (Same-eq (λ i. term (times (times a m) b) (r * s) ∷ term (times (times (negative b) m) a) (turned i) ∷ []))
    (Same-trans (joined_radicand (times (times a m) b) (times (times (negative b) m) a) (r * s))
    (Same-trans (Same-eq (ap (λ q. term q (r * s) ∷ []) (middle_goes a b m))) (zero_term (r * s)))))
    (root_squared d s)))
    (Same-trans (joined_radicand (times c x) (times d y) 1) (Same-eq (ap surd_of (ends_join a b m x y ∙ e))))

abs_square : (p : ℤ) → p *ℤ p ≡ pos (nat_abs p * nat_abs p)
abs_square p = grind arith

-- a * a * r as a quotient of naturals
squared_over : (a : Fraction) (r : ℕ) → times (times a a) (whole_fraction (pos r)) ≡ quotient (nat_abs a.num * nat_abs a.num * r) (a.den * a.den)
squared_over a r =
    ap (λ x. times x (whole_fraction (pos r))) ((λ i. times (lowest_parts a i) (lowest_parts a i)) ∙ times_lowest a.num a.num a.den a.den (den_pos a) (den_pos a) ∙ ap (λ z. lowest z (a.den * a.den)) (abs_square a.num))
    ∙ times_lowest (pos (nat_abs a.num * nat_abs a.num)) (pos r) (a.den * a.den) 1 (mul_pos a.den a.den (den_pos a) (den_pos a)) (omega arith)
    ∙ ap (lowest (pos (nat_abs a.num * nat_abs a.num * r))) (mul-one (a.den * a.den))

scaled_square : (u q v p r s : ℕ) → u * u * r * (p * p) ≡ v * v * s * (q * q) → (r * s) * ((u * p) * (u * p)) ≡ (s * v * q) * (s * v * q)
scaled_square u q v p r s e = omega (arith, ap (λ n. s * n) e)

alike_from_scaled : (u q v p r s : ℕ) → 0 < u → 0 < p → 0 < r → 0 < s → u * u * r * (p * p) ≡ v * v * s * (q * q) → are_alike r s ≡ true
alike_from_scaled u q v p r s hu hp hr hs e =
    let (t, f) = square_from_scaled (r * s) (u * p) (s * v * q) (mul_pos u p hu hp) (scaled_square u q v p r s e) in
    alike_true r s t (record { square = sym f; positive = factor_pos t t (r * s) (sym f) (mul_pos r s hr hs) })

abs_pos : (z : ℤ) → (z ≡ pos 0 → ⊥) → 0 < nat_abs z
abs_pos z h = grind arith

-- for roots that are not alike the difference of the squares is not 0
pub difference_not_zero : (a b : Fraction) (r s : ℕ) → a ≢ zero_fraction → 0 < r → 0 < s → are_alike r s ≡ false → square_difference a r b s ≢ zero_fraction
difference_not_zero a b r s h hr hs n e =
    let f : quotient (nat_abs a.num * nat_abs a.num * r) (a.den * a.den) ≡ quotient (nat_abs b.num * nat_abs b.num * s) (b.den * b.den) =
    sym (squared_over a r) ∙ same_from_difference _ _ e ∙ squared_over b s in
    let g = cross_products _ _ _ _ (mul_pos a.den a.den (den_pos a) (den_pos a)) (mul_pos b.den b.den (den_pos b) (den_pos b)) f in
    let k : are_alike r s ≡ true = alike_from_scaled (nat_abs a.num) a.den (nat_abs b.num) b.den r s
    (abs_pos a.num (λ z. h (zero_is a (ap int_is_zero z)))) (den_pos b) hr hs (ap nat_abs g) in
    cc

-- (a * √r - b * √s)/(a * a * r - b * b * s)
abbrev pub inverse_of_terms : Fraction → ℕ → Fraction → ℕ → Surd
inverse_of_terms a r b s = term (times a (inverse (square_difference a r b s))) r ∷ term (times (negative b) (inverse (square_difference a r b s))) s ∷ []

-- two terms that are not alike have their inverse
pub terms_have_inverse : (a b : Fraction) (r s : ℕ) → a ≢ zero_fraction → 0 < r → 0 < s → are_alike r s ≡ false → Inverts (inverse_of_terms a r b s) (term a r ∷ term b s ∷ [])
terms_have_inverse a b r s h hr hs n = Inverts-terms a b _ r s (inverse_times_itself (square_difference a r b s) (difference_not_zero a b r s h hr hs n))

-- ---- at most two terms

whole_part_of : (r : ℕ) → 0 < r → times (quotient 1 r) (whole_fraction (pos r)) ≡ one_fraction
unfolding one_fraction
whole_part_of r h = times_lowest (pos 1) (pos r) r 1 h (omega arith) ∙ same_lowest (pos (1 * r)) (pos 1) (r * 1) 1 (mul_pos r 1 h (omega arith)) (omega arith) (ap pos (omega arith))

-- a term that is alike another is a multiple of its root
pub term_of_class : (b : Fraction) (r s t : ℕ) → Alike r s t → 0 < r → Same (term b s ∷ []) (term (times (times b (quotient 1 r)) (whole_fraction (pos t))) r ∷ [])
term_of_class b r s t a h =
    let c : Fraction = times b (quotient 1 r) in
    let turned : r * r * s ≡ t * t * r = omega (arith, ap (λ n. n * r) a.square) in
    Same-trans (Same-eq (ap (λ q. term q s ∷ []) back)) (Same-trans (Same-sym (extracted c (r * r * s) r s refl)) (extracted c (r * r * s) t r turned))
  where
    back : b ≡ times (times b (quotient 1 r)) (whole_fraction (pos r))
    back = sym (times_assoc b (quotient 1 r) (whole_fraction (pos r)) ∙ ap (times b) (whole_part_of r h) ∙ times_comm b one_fraction ∙ one_times b)

abbrev HasInverse : Surd → Type 0
HasInverse w = (y : Surd) × Inverts y w

moved : (w w' : Surd) → Same w w' → HasInverse w' → HasInverse w
moved w w' h (y, i) = (y, Inverts-Same (Same-refl y) (Same-sym h) i)

-- what is the same as one term, and not zero, has an inverse
one_term_inverse : (w : Surd) (a : Fraction) (r : ℕ) → Same w (term a r ∷ []) → ¬ (Same w []) → HasInverse w
one_term_inverse w a zero h n = absurd (n (Same-trans h (zero_radicand a)))
one_term_inverse w a (suc r) h n = by (is_zero_fraction a) refl
  where
    by : (b : Bool) → is_zero_fraction a ≡ b → (y : Surd) × Inverts y w
    by true e = absurd (n (Same-trans h (Same-trans (Same-eq (ap (λ q. term q (suc r) ∷ []) (zero_is a e))) (zero_term (suc r)))))
    by false e = moved w (term a (suc r) ∷ []) h (inverse_of_term a (suc r), term_has_inverse a (suc r) (no_zero a (not_from_false _ e)) (omega arith))

two_terms_inverse : (w : Surd) (a b : Fraction) (r s : ℕ) → Same w (term a r ∷ term b s ∷ []) → ¬ (Same w []) → HasInverse w
two_terms_inverse w a b zero s h n = one_term_inverse w b s (Same-trans h (Same-append {v = term a 0 ∷ []} {v' = []} (zero_radicand a) (Same-refl (term b s ∷ [])))) n
two_terms_inverse w a b (suc r) zero h n = one_term_inverse w a (suc r) (Same-trans h (Same-append {v = term a (suc r) ∷ []} {v' = term a (suc r) ∷ []} (Same-refl (term a (suc r) ∷ [])) (zero_radicand b))) n
two_terms_inverse w a b (suc r) (suc s) h n = by (is_zero_fraction a) refl (are_alike (suc r) (suc s)) refl
  where
    t : ℕ
    t = square_root (suc r * suc s)

    c : Fraction
    c = times (times b (quotient 1 (suc r))) (whole_fraction (pos t))

    by : (c : Bool) → is_zero_fraction a ≡ c → (d : Bool) → are_alike (suc r) (suc s) ≡ d → HasInverse w
    by true e d f = one_term_inverse w b (suc s) (Same-trans h (Same-append {v = term a (suc r) ∷ []} {v' = []} (Same-trans (Same-eq (ap (λ q. term q (suc r) ∷ []) (zero_is a e))) (zero_term (suc r))) (Same-refl (term b (suc s) ∷ [])))) n
    by false e true f = one_term_inverse w (plus a c) (suc r) (Same-trans h (Same-trans (Same-append {v = term a (suc r) ∷ []} {v' = term a (suc r) ∷ []} (Same-refl (term a (suc r) ∷ [])) (term_of_class b (suc r) (suc s) t (alike_from (suc r) (suc s) f) (omega arith))) (joined_radicand a c (suc r)))) n
    by false e false f = moved w (term a (suc r) ∷ term b (suc s) ∷ []) h (inverse_of_terms a (suc r) b (suc s), terms_have_inverse a b (suc r) (suc s) (no_zero a (not_from_false _ e)) (omega arith) (omega arith) f)

-- what has at most two terms, and is not zero, has an inverse
pub two_terms_have_inverse : (w : Surd) → length w ≤ 2 → ¬ (Same w []) → (y : Surd) × Inverts y w
two_terms_have_inverse [] l n = absurd (n (Same-refl []))
two_terms_have_inverse (t ∷ []) l n = one_term_inverse (t ∷ []) t.coefficient t.radicand (Same-refl _) n
two_terms_have_inverse (t ∷ u ∷ []) l n = two_terms_inverse (t ∷ u ∷ []) t.coefficient u.coefficient t.radicand u.radicand (Same-refl _) n
two_terms_have_inverse (t ∷ u ∷ x ∷ w) l n = absurd (omega arith)

pub short_has_inverse : (v : Surd) → IsShort v → ¬ (Same v []) → (y : Surd) × Inverts y v
short_has_inverse v (w, h, l) n = moved v w h (two_terms_have_inverse w l (λ z. n (Same-trans h z)))

pub ruleset inverses = (Inverts-one, Inverts-not_zero, short_has_inverse)
