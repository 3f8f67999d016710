-- A Number has no more mass than a list that is the same, class by class.
use Rattle.calc_bits.proofs.Shared.{◌≡◌, ◌≢◌, ℕ, ◌+◌, ◌*◌, ◌≤◌, ◌<◌, max, [], ◌∷◌, Bool, true, false, if◌then◌else◌, ℤ, pos, ◌+ℤ◌, ◌*ℤ◌, refl, sym, ap, ◌∙◌, subst, arith, nat_abs, ⊤, ◌∣◌, ints}
use Rattle.calc_bits.proofs.Shared.{unsigned_abs-mul, false_from_ne_true, mul-le, Fraction, lowest, plus, times, quotient, zero_fraction, same_lowest, times_lowest, mul_pos, den_pos, zero_plus}
use Rattle.calc_bits.proofs.Shared.{IsBelowAll, Rises, are_alike, term_share, class_coefficient, Same, square_root, Term, Surd, Alike, alike_from, Same-Agree, Agree, share_alike, share_apart}
use Rattle.calc_bits.proofs.Shared.{IsProper, AreProper, first_coefficient, alike_common, behind_coefficient, AreWholeOver, Parts, magnitude_over, root_above, term_mass, mass_from}
use Rattle.calc_bits.proofs.{Quotients.{cancel_le, cancel_right, abs_cross, magnitude_cross, whole_over, whole_over-abs, over_multiple, plus_over}, RootsAbove.{root_enough, root_least, square_sum}}

-- ---- the terms of one class, and the others

-- e * s times the coefficient of the root of s
abbrev class_sum : ℕ → ℕ → Surd → ℤ
class_sum e s [] = pos 0
class_sum e s (t ∷ v) = (if are_alike t.radicand s then whole_over e t.coefficient *ℤ pos (square_root (t.radicand * s)) else pos 0) +ℤ class_sum e s v

abbrev class_mass : ℕ → ℕ → ℕ → Surd → ℕ
class_mass m e s [] = 0
class_mass m e s (t ∷ v) = (if are_alike t.radicand s then term_mass m e t else 0) + class_mass m e s v

abbrev others : ℕ → Surd → Surd
others s [] = []
others s (t ∷ v) = if are_alike t.radicand s then others s v else t ∷ others s v

mass_split : (m e s : ℕ) (v : Surd) → mass_from m e v ≡ class_mass m e s v + mass_from m e (others s v)
mass_split m e s [] = omega arith
mass_split m e s (t ∷ v) = by (are_alike t.radicand s) (mass_split m e s v)
  where
    by : (b : Bool) → mass_from m e v ≡ class_mass m e s v + mass_from m e (others s v)
        → term_mass m e t + mass_from m e v ≡ ((if b then term_mass m e t else 0) + class_mass m e s v) + mass_from m e (if b then others s v else t ∷ others s v)
    by true h = omega arith
    by false h = omega arith

whole_others : (e s : ℕ) (v : Surd) → AreWholeOver e v → AreWholeOver e (others s v)
whole_others e s [] h = tt
whole_others e s (t ∷ v) (h, hs) = by (are_alike t.radicand s) (whole_others e s v hs)
  where
    by : (b : Bool) → AreWholeOver e (others s v) → AreWholeOver e (if b then others s v else t ∷ others s v)
    by true k = k
    by false k = (h, k)

-- the coefficient at another class is that of the others
others_coefficient : (s c : ℕ) (v : Surd) → are_alike s c ≡ false → class_coefficient (others s v) c ≡ class_coefficient v c
others_coefficient s c [] h = refl
others_coefficient s c (t ∷ v) h = by (are_alike t.radicand s) refl (others_coefficient s c v h)
  where
    by : (b : Bool) → are_alike t.radicand s ≡ b → class_coefficient (others s v) c ≡ class_coefficient v c → class_coefficient (if b then others s v else t ∷ others s v) c ≡ plus (term_share t c) (class_coefficient v c)
    by true e k =
        let f : are_alike t.radicand c ≡ false = false_from_ne_true (are_alike t.radicand c) (λ a. contrary (alike_common s c t.radicand e a)) in
        k ∙ sym (ap (λ x. plus x (class_coefficient v c)) (share_apart t.coefficient t.radicand c f) ∙ zero_plus (class_coefficient v c))
      where
        contrary : are_alike s c ≡ true → ⊥
        contrary a = cc
    by false e k = ap (plus (term_share t c)) k

-- ---- the coefficient of one class

share_sum : (e s : ℕ) (t : Term) → 0 < e → 0 < s → t.coefficient.den ∣ e
    → term_share t s ≡ lowest (if are_alike t.radicand s then whole_over e t.coefficient *ℤ pos (square_root (t.radicand * s)) else pos 0) (e * s)
unfolding zero_fraction
share_sum e s t he hs h = grind (arith, share_alike, alike_from, over_multiple, times_lowest, share_apart, same_lowest, mul_pos, ints)

coefficient_sum : (e s : ℕ) (v : Surd) → 0 < e → 0 < s → AreWholeOver e v → class_coefficient v s ≡ lowest (class_sum e s v) (e * s)
unfolding zero_fraction
coefficient_sum e s [] he hs h = same_lowest (pos 0) (pos 0) 1 (e * s) (omega arith) (mul_pos e s he hs) (omega (arith, ints))
coefficient_sum e s (t ∷ v) he hs (h, k) =
    (λ i. plus (share_sum e s t he hs h i) (coefficient_sum e s v he hs k i)) ∙ plus_over _ (class_sum e s v) (e * s) (mul_pos e s he hs)

pub abs_plus : (x y : ℤ) → nat_abs (x +ℤ y) ≤ nat_abs x + nat_abs y
abs_plus x y = omega (arith, ints)

-- the square of one term's share
one_square : (n x r s u k : ℕ) → x * x ≡ r * s → n * n * r ≤ u * u → u ≤ k → (n * x) * (n * x) ≤ s * (k * k)
one_square n x r s u k e h l =
    let a : (n * n * r) * s ≤ (k * k) * s = mul-le (n * n * r) s (k * k) s (let b : u * u ≤ k * k = mul-le u u k k l l in omega arith) (omega arith) in
    omega (arith, ap (λ z. n * n * z) e)

term_square : (m e s : ℕ) (t : Term) → (b : Bool) → are_alike t.radicand s ≡ b
    → nat_abs (if b then whole_over e t.coefficient *ℤ pos (square_root (t.radicand * s)) else pos 0) * nat_abs (if b then whole_over e t.coefficient *ℤ pos (square_root (t.radicand * s)) else pos 0)
    ≤ s * ((if b then term_mass m e t else 0) * (if b then term_mass m e t else 0))
term_square m e s t true a =
    let n : ℕ = magnitude_over e t.coefficient in
    let x : ℕ = square_root (t.radicand * s) in
    let f : nat_abs (whole_over e t.coefficient *ℤ pos x) ≡ n * x = unsigned_abs-mul (whole_over e t.coefficient) (pos x) ∙ ap (λ z. z * x) (whole_over-abs e t.coefficient) in
    let p : Alike t.radicand s x = alike_from t.radicand s a in
    subst (λ z. z * z ≤ s * (term_mass m e t * term_mass m e t)) (sym f)
    (one_square n x t.radicand s (root_above (n * n * t.radicand)) (term_mass m e t) p.square (root_enough (n * n * t.radicand)) (omega arith))
term_square m e s t false a = omega arith

grown_square : (a b c : ℕ) → a ≤ b → b * b ≤ c → a * a ≤ c
grown_square a b c h k = let l : a * a ≤ b * b = mul-le a a b b h h in omega arith

class_square : (m e s : ℕ) (v : Surd) → nat_abs (class_sum e s v) * nat_abs (class_sum e s v) ≤ s * (class_mass m e s v * class_mass m e s v)
class_square m e s [] = omega arith
class_square m e s (t ∷ v) =
    let x : ℤ = if are_alike t.radicand s then whole_over e t.coefficient *ℤ pos (square_root (t.radicand * s)) else pos 0 in
    let u : ℕ = if are_alike t.radicand s then term_mass m e t else 0 in
    grown_square (nat_abs (x +ℤ class_sum e s v)) (nat_abs x + nat_abs (class_sum e s v)) (s * ((u + class_mass m e s v) * (u + class_mass m e s v))) (abs_plus x (class_sum e s v))
    (square_sum (nat_abs x) (nat_abs (class_sum e s v)) s u (class_mass m e s v) (term_square m e s t (are_alike t.radicand s) refl) (class_square m e s v))

-- a class with a coefficient other than 0 has a term
class_least : (m e s : ℕ) (v : Surd) → class_coefficient v s ≢ zero_fraction → m ≤ class_mass m e s v
class_least m e s [] h = absurd (h refl)
class_least m e s (t ∷ v) h = by (are_alike t.radicand s) refl (λ k. class_least m e s v k)
  where
    by : (b : Bool) → are_alike t.radicand s ≡ b → (class_coefficient v s ≢ zero_fraction → m ≤ class_mass m e s v) → m ≤ (if b then term_mass m e t else 0) + class_mass m e s v
    by true a go = omega arith
    by false a go = let l : m ≤ class_mass m e s v = go (λ z. h ((λ i. plus (share_apart t.coefficient t.radicand s a i) (z i)) ∙ zero_plus zero_fraction)) in omega arith

-- ---- one term of the Number

-- n * (e * s) is X * S * e, so n * n * s is at most the square of S times the mass of the class
square_over : (n e s x k u : ℕ) → 0 < e → 0 < s → n * (e * s) ≡ x * (k * e) → x * x ≤ s * (u * u) → n * n * s ≤ (k * u) * (k * u)
square_over n e s x k u he hs f h =
    let g : n * s ≡ x * k = cancel_right (n * s) (x * k) e he (omega (arith, f)) in
    let a : (x * x) * (k * k) ≤ (s * (u * u)) * (k * k) = mul-le (x * x) (k * k) (s * (u * u)) (k * k) h (omega arith) in
    cancel_le (n * n * s) ((k * u) * (k * u)) s hs (omega (arith, a, ap (λ z. z * z) g))

-- q is X/(e * s), and n is k * e times its magnitude
over_class : (q : Fraction) (x : ℤ) (e s k : ℕ) → 0 < e → 0 < s → q ≡ lowest x (e * s) → q.den ∣ k * e → magnitude_over (k * e) q * (e * s) ≡ nat_abs x * (k * e)
over_class q x e s k he hs f h =
    let c : nat_abs q.num * (e * s) ≡ nat_abs x * q.den = subst (λ z. nat_abs z.num * (e * s) ≡ nat_abs x * z.den) (sym f) (abs_cross x (e * s) (mul_pos e s he hs)) in
    cancel_right (magnitude_over (k * e) q * (e * s)) (nat_abs x * (k * e)) q.den (den_pos q) (chain (magnitude_over (k * e) q) (e * s) (nat_abs q.num) q.den (nat_abs x) (k * e) (magnitude_cross (k * e) q h) c)
  where
    chain : (n d a y x w : ℕ) → n * y ≡ a * w → a * d ≡ x * y → (n * d) * y ≡ (x * w) * y
    chain n d a y x w p r = omega (arith, ap (λ z. z * d) p, ap (λ z. z * w) r)

scaled_class : (k m u c : ℕ) → m ≤ c → u ≤ k * c → max (k * m) u ≤ k * c
scaled_class k m u c h l = let a : k * m ≤ k * c = mul-le k m k c (omega arith) h in omega arith

one_class : (m k e : ℕ) (t : Term) (v : Surd) → Parts e v → IsProper t → t.coefficient.den ∣ k * e → class_coefficient v t.radicand ≡ t.coefficient
    → term_mass (k * m) (k * e) t ≤ k * class_mass m e t.radicand v
one_class m k e t v p proper h c =
    let s : ℕ = t.radicand in
    let n : ℕ = magnitude_over (k * e) t.coefficient in
    let f : t.coefficient ≡ lowest (class_sum e s v) (e * s) = sym c ∙ coefficient_sum e s v p.positive proper.positive p.whole in
    scaled_class k m (root_above (n * n * s)) (class_mass m e s v) (class_least m e s v (λ z. proper.not_zero (sym c ∙ z)))
    (root_least (n * n * s) (k * class_mass m e s v)
    (square_over n e s (nat_abs (class_sum e s v)) k (class_mass m e s v) p.positive proper.positive
    (over_class t.coefficient (class_sum e s v) e s k p.positive proper.positive f h) (class_square m e s v)))

-- ---- all terms

-- the coefficients of v at the classes of the terms
abbrev HasCoefficients : Surd → Surd → Type 0
HasCoefficients v [] = ⊤
HasCoefficients v (t ∷ w) = (class_coefficient v t.radicand ≡ t.coefficient) × HasCoefficients v w

others_have : (s : ℕ) (t : Term) (v w : Surd) → t.radicand ≡ s → IsBelowAll t w → HasCoefficients v w → HasCoefficients (others s v) w
others_have s t v [] e b h = tt
others_have s t v (u ∷ w) e (l, a, b) (h, hs) = (others_coefficient s u.radicand v (ap (λ r. are_alike r u.radicand) (sym e) ∙ a) ∙ h, others_have s t v w e b hs)

mass_of_classes : (m k e : ℕ) (w v : Surd) → Parts e v → AreProper w → Rises w → AreWholeOver (k * e) w → HasCoefficients v w → mass_from (k * m) (k * e) w ≤ k * mass_from m e v
mass_of_classes m k e [] v p a r h c = omega arith
mass_of_classes m k e (t ∷ w) v p (a, as') (r, rs) (h, hs) (c, cs) =
    let s : ℕ = t.radicand in
    let x : term_mass (k * m) (k * e) t ≤ k * class_mass m e s v = one_class m k e t v p a h c in
    let y : mass_from (k * m) (k * e) w ≤ k * mass_from m e (others s v) =
    mass_of_classes m k e w (others s v) (record { positive = p.positive; whole = whole_others e s v p.whole }) as' rs hs (others_have s t v w refl r cs) in
    let z : mass_from m e v ≡ class_mass m e s v + mass_from m e (others s v) = mass_split m e s v in
    joined (term_mass (k * m) (k * e) t) (mass_from (k * m) (k * e) w) k (class_mass m e s v) (mass_from m e (others s v)) (mass_from m e v) x y z
  where
    joined : (p q k a b c : ℕ) → p ≤ k * a → q ≤ k * b → c ≡ a + b → p + q ≤ k * c
    joined p q k a b c h l e = let f : k * c ≡ k * (a + b) = ap (λ z. k * z) e in omega arith

have_behind : (t : Term) (v w : Surd) → IsBelowAll t w → HasCoefficients v w → HasCoefficients (t ∷ v) w
have_behind t v [] b h = tt
have_behind t v (u ∷ w) (l, a, b) (h, hs) = (behind_coefficient t u v a ∙ h, have_behind t v w b hs)

have_own : (w : Surd) → AreProper w → Rises w → HasCoefficients w w
have_own [] a r = tt
have_own (t ∷ w) (a, as') (r, rs) = (first_coefficient t w a r, have_behind t w w r (have_own w as' rs))

have_same : (w v u : Surd) → Agree w v → HasCoefficients w u → HasCoefficients v u
have_same w v [] a h = tt
have_same w v (t ∷ u) a (h, hs) = (sym (a.at t.radicand) ∙ h, have_same w v u a hs)

-- terms that rise have no more mass than a list that is the same; k makes up for a denominator that is finer than e
pub mass_same : (m k e : ℕ) (w v : Surd) → AreProper w → Rises w → Same w v → Parts e v → Parts (k * e) w → mass_from (k * m) (k * e) w ≤ k * mass_from m e v
mass_same m k e w v a r s p q = mass_of_classes m k e w v p a r q.whole (have_same w v w (Same-Agree s) (have_own w a r))
