-- Denominators and masses of inverses, for every common denominator.
use Rattle.surd_bits.proofs.Shared.{◌≡◌, ◌≢◌, ℕ, ◌+◌, ◌*◌, ◌^◌, ◌≤◌, ◌<◌, max, [], ◌∷◌, false, pos, refl, sym, ap, ◌∙◌, subst, arith, mul-le, pow-add, dvd-mul_left, pow-le-pow_right, Fraction, times}
use Rattle.surd_bits.proofs.Shared.{negative, inverse, whole_fraction, zero_fraction, mul_pos, are_alike, Term, Surd, Parts, magnitude_over, root_above, term_mass, mass_from, mass, IsHeld}
use Rattle.surd_bits.proofs.Shared.{IsHeldByOne, root_enough, root_least, root_scale, magnitudes_cross, multiple_den, magnitude_scale, term_not_zero, dvd_trans, inverse_of, conjugate_product}
use Rattle.surd_bits.proofs.{Shared.{first_of_inverse, second_of_inverse, ◌∣◌, below_power, mul_comm}, Bounds.{square_bound, magnitude_positive, magnitude_whole}}
use Rattle.surd_bits.proofs.{Inverses.{OverDifference, OverInverse, over_inverse, magnitude_negative}, InversesFit.{f, inverse_factor, inverse_terms, over_term, two_squares, square_of_two}}

-- any two common denominators hold a list
over_any : (d e : ℕ) (v : Surd) → Parts d v → Parts e v → IsHeld v (mass e v) d
over_any d e v p q = record {
  denominator = d;
  parts = p;
  low = let x : d < 2 ^ d = below_power d in omega arith;
  scale = e;
  scaled = q;
  high =
      let x : mass e v < 2 ^ mass e v = below_power (mass e v) in
      let y : 1 * 2 ^ mass e v ≤ e * 2 ^ mass e v = mul-le 1 (2 ^ mass e v) e (2 ^ mass e v) q.positive (omega arith) in
      omega arith;
}

-- the common denominator f of the inverse, and its mass over e * f
pub record Measured (a b : Term) (d e : ℕ) : Type 0 where
  pub factor : ℕ
  pub positive : 0 < factor
  pub at_most : factor ≤ magnitude_over d a.coefficient * magnitude_over d a.coefficient * a.radicand + magnitude_over d b.coefficient * magnitude_over d b.coefficient * b.radicand
  pub first : OverDifference d e factor a.coefficient (inverse (conjugate_product a b))
  pub second : OverDifference d e factor (negative b.coefficient) (inverse (conjugate_product a b))

pub measured : (a b : Term) (d e : ℕ) → a.coefficient ≢ zero_fraction → b.coefficient ≢ zero_fraction → 0 < a.radicand → 0 < b.radicand → are_alike a.radicand b.radicand ≡ false
    → Parts d (a ∷ b ∷ []) → Parts e (a ∷ b ∷ []) → Measured a b d e
unfolding over_any
measured a b d e na nb ra rb apart p q =
    let k : IsHeld (a ∷ b ∷ []) (mass e (a ∷ b ∷ [])) d = over_any d e (a ∷ b ∷ []) p q in record {
      factor = f a b (mass e (a ∷ b ∷ [])) d na nb ra rb apart k;
      positive = (inverse_factor a b (mass e (a ∷ b ∷ [])) d na nb ra rb apart k).0;
      at_most = (inverse_factor a b (mass e (a ∷ b ∷ [])) d na nb ra rb apart k).1;
      first = (inverse_terms a b (mass e (a ∷ b ∷ [])) d na nb ra rb apart k).0;
      second = (inverse_terms a b (mass e (a ∷ b ∷ [])) d na nb ra rb apart k).1;
    }

pub measured_parts : (a b : Term) (d e : ℕ) (z : Measured a b d e) → Parts z.factor (first_of_inverse a b ∷ second_of_inverse a b ∷ [])
measured_parts a b d e z = record { positive = z.positive; whole = (z.first.whole, (z.second.whole, tt)) }

pub measured_scale : (a b : Term) (d e : ℕ) (z : Measured a b d e) → 0 < e → Parts (e * z.factor) (first_of_inverse a b ∷ second_of_inverse a b ∷ [])
measured_scale a b d e z h = record { positive = mul_pos e z.factor h z.positive; whole = (z.first.scaled, (z.second.scaled, tt)) }

pub measured_mass : (a b : Term) (m d e : ℕ) (z : Measured a b d e) → 0 < d → b.coefficient.den ∣ e
    → mass_from (z.factor * m) (e * z.factor) (first_of_inverse a b ∷ second_of_inverse a b ∷ []) ≤ (z.factor * (d * d)) * mass_from m e (a ∷ b ∷ [])
measured_mass a b m d e z hd h =
    let x : term_mass (z.factor * m) (e * z.factor) (first_of_inverse a b) ≤ (z.factor * (d * d)) * term_mass m e a =
    over_term (z.factor * m) m d e z.factor a.coefficient (inverse (conjugate_product a b)) a.radicand (magnitude_over e a.coefficient) hd z.positive refl z.first refl in
    let y : term_mass (z.factor * m) (e * z.factor) (second_of_inverse a b) ≤ (z.factor * (d * d)) * term_mass m e b =
    over_term (z.factor * m) m d e z.factor (negative b.coefficient) (inverse (conjugate_product a b)) b.radicand (magnitude_over e b.coefficient) hd z.positive refl z.second (magnitude_negative b.coefficient e h) in
    at _ _ (z.factor * (d * d)) (term_mass m e a) (term_mass m e b) x y
  where
    at : (x y c u w : ℕ) → x ≤ c * u → y ≤ c * w → x + (y + 0) ≤ c * (u + (w + 0))
    at x y c u w h k = omega arith

-- ---- by one denominator

one_over : (d f : ℕ) (c k : Fraction) (r x : ℕ) → OverDifference d d f c k → magnitude_over d c ≡ x → root_above (magnitude_over f (times c k) * magnitude_over f (times c k) * r) ≤ d * root_above (x * x * r)
one_over d f c k r x o g = subst (λ z. root_above z ≤ d * root_above (x * x * r)) (sym (squared d x (magnitude_over f (times c k)) r (o.is ∙ ap (λ z. z * d) g))) (root_scale d (x * x * r))
  where
    squared : (t x y r : ℕ) → y ≡ x * t → y * y * r ≡ t * t * (x * x * r)
    squared t x y r e = ap (λ z. z * z * r) e ∙ omega arith

pub inverse_by_one : (a b : Term) (h l : ℕ) → a.coefficient ≢ zero_fraction → b.coefficient ≢ zero_fraction → 0 < a.radicand → 0 < b.radicand → are_alike a.radicand b.radicand ≡ false
    → IsHeldByOne (a ∷ b ∷ []) h l → IsHeldByOne (first_of_inverse a b ∷ second_of_inverse a b ∷ []) (h + 2 * l) (2 * h + 2 * l)
inverse_by_one a b h l na nb ra rb apart k = record {
  denominator = z.factor;
  parts = measured_parts a b d d z;
  low = subst (λ c. z.factor ≤ 2 ^ c) (doubled h l) (trans z.factor ((d * 2 ^ h) * (d * 2 ^ h)) (2 ^ ((h + l) + (h + l))) (trans z.factor _ ((d * 2 ^ h) * (d * 2 ^ h)) z.at_most squares) (square_bound d h l k.low));
  high = bound _ _ u w d z.factor (2 ^ h) (2 ^ (2 * l)) (2 ^ (h + 2 * l)) first second sum (square_of_two d l k.low) (pow-add 2 h (2 * l)) z.positive;
}
  where
    d : ℕ
    d = k.denominator

    z : Measured a b d d
    z = measured a b d d na nb ra rb apart k.parts k.parts

    n : ℕ
    n = magnitude_over d a.coefficient

    m : ℕ
    m = magnitude_over d b.coefficient

    u : ℕ
    u = root_above (n * n * a.radicand)

    w : ℕ
    w = root_above (m * m * b.radicand)

    sum : u + w ≤ d * 2 ^ h
    sum = at u w (term_mass 0 d a) (term_mass 0 d b) (d * 2 ^ h) (omega arith) (omega arith) k.high
      where
        at : (u w a b p : ℕ) → u ≤ a → w ≤ b → a + (b + 0) ≤ p → u + w ≤ p
        at u w a b p f g h = omega arith

    squares : n * n * a.radicand + m * m * b.radicand ≤ (d * 2 ^ h) * (d * 2 ^ h)
    squares = two_squares n a.radicand m b.radicand d d n m u w (2 ^ h) k.parts.positive (mul_comm n d) (mul_comm m d) (root_enough (n * n * a.radicand)) (root_enough (m * m * b.radicand)) sum

    first : term_mass 0 z.factor (first_of_inverse a b) ≤ d * u
    first = let x : root_above (magnitude_over z.factor (times a.coefficient (inverse (conjugate_product a b))) * magnitude_over z.factor (times a.coefficient (inverse (conjugate_product a b))) * a.radicand) ≤ d * u = one_over d z.factor a.coefficient (inverse (conjugate_product a b)) a.radicand n z.first refl in omega arith

    second : term_mass 0 z.factor (second_of_inverse a b) ≤ d * w
    second = let x : root_above (magnitude_over z.factor (times (negative b.coefficient) (inverse (conjugate_product a b))) * magnitude_over z.factor (times (negative b.coefficient) (inverse (conjugate_product a b))) * b.radicand) ≤ d * w =
        one_over d z.factor (negative b.coefficient) (inverse (conjugate_product a b)) b.radicand m z.second (magnitude_negative b.coefficient d (k.parts.whole.1).0) in omega arith

    trans : (a b c : ℕ) → a ≤ b → b ≤ c → a ≤ c
    trans a b c h k = omega arith

    doubled : (h l : ℕ) → (h + l) + (h + l) ≡ 2 * h + 2 * l
    doubled h l = omega arith

    bound : (x y u w d f p q r : ℕ) → x ≤ d * u → y ≤ d * w → u + w ≤ d * p → d * d ≤ q → r ≡ p * q → 0 < f → x + (y + 0) ≤ f * r
    bound x y u w d f p q r a b c e g h =
        let i : d * (u + w) ≤ d * (d * p) = mul-le d (u + w) d (d * p) (omega arith) c in
        let j : (d * d) * p ≤ q * p = mul-le (d * d) p q p e (omega arith) in
        let o : 1 * (p * q) ≤ f * (p * q) = mul-le 1 (p * q) f (p * q) h (omega arith) in
        let t : f * r ≡ f * (p * q) = ap (λ z. f * z) g in
        omega arith

-- ---- one term

-- the inverse over n * r, where n is d times the magnitude of the coefficient
pub record MeasuredOne (a : Term) (d e : ℕ) : Type 0 where
  pub factor : ℕ
  pub positive : 0 < factor
  pub at_most : factor ≤ magnitude_over d a.coefficient * magnitude_over d a.coefficient * a.radicand
  pub whole : (inverse_of a).coefficient.den ∣ factor
  pub is : magnitude_over factor (inverse_of a).coefficient ≡ d
  pub same : factor ≡ magnitude_over d a.coefficient * a.radicand

pub measured_one : (a : Term) (d e : ℕ) → a.coefficient ≢ zero_fraction → 0 < a.radicand → Parts d (a ∷ []) → MeasuredOne a d e
measured_one a d e na ra p = record {
  factor = n * a.radicand;
  positive = mul_pos n a.radicand n-positive ra;
  at_most = let l : 1 * (n * a.radicand) ≤ n * (n * a.radicand) = mul-le 1 (n * a.radicand) n (n * a.radicand) n-positive (omega arith) in omega arith;
  whole = subst (λ z. (inverse q).den ∣ z) q-is over.whole;
  is = subst (λ z. magnitude_over z (inverse q) ≡ d) q-is over.is;
  same = refl;
}
  where
    n : ℕ
    n = magnitude_over d a.coefficient

    q : Fraction
    q = times a.coefficient (whole_fraction (pos a.radicand))

    n-positive : 0 < n
    n-positive = magnitude_positive a.coefficient d na p.positive p.whole.0

    q-is : magnitude_over d q ≡ n * a.radicand
    q-is = magnitude_whole a.coefficient d a.radicand p.whole.0

    over : OverInverse d q
    over = over_inverse d q (term_not_zero a.coefficient a.radicand na ra) p.positive (multiple_den a.coefficient (pos a.radicand) d p.whole.0)

pub one_parts : (a : Term) (d e : ℕ) (z : MeasuredOne a d e) → Parts z.factor (inverse_of a ∷ [])
one_parts a d e z = record { positive = z.positive; whole = (z.whole, tt) }

pub one_scale : (a : Term) (d e : ℕ) (z : MeasuredOne a d e) → 0 < e → Parts (e * z.factor) (inverse_of a ∷ [])
one_scale a d e z h = record { positive = mul_pos e z.factor h z.positive; whole = (dvd_trans (inverse_of a).coefficient.den z.whole (dvd-mul_left z.factor e), tt) }

pub one_mass : (a : Term) (m d e : ℕ) (z : MeasuredOne a d e) → a.coefficient ≢ zero_fraction → Parts d (a ∷ []) → Parts e (a ∷ [])
    → mass_from (z.factor * m) (e * z.factor) (inverse_of a ∷ []) ≤ (z.factor * (d * d)) * mass_from m e (a ∷ [])
one_mass a m d e z na p q =
    at (z.factor * m) m z.factor (d * d) (root_above (k * k * a.radicand)) (root_above (y * y * a.radicand)) z.positive (mul_pos d d p.positive p.positive) refl
    (root_least (y * y * a.radicand) (d * d * root_above (k * k * a.radicand))
    (squared y e d n k a.radicand (root_above (k * k * a.radicand)) y-is (magnitude_positive a.coefficient d na p.positive p.whole.0) (magnitudes_cross d e a.coefficient p.whole.0 q.whole.0) (root_enough (k * k * a.radicand))))
  where
    n : ℕ
    n = magnitude_over d a.coefficient

    k : ℕ
    k = magnitude_over e a.coefficient

    y : ℕ
    y = magnitude_over (e * z.factor) (inverse_of a).coefficient

    y-is : y ≡ e * d
    y-is = magnitude_scale e z.factor (inverse_of a).coefficient z.whole ∙ ap (λ c. e * c) z.is

    squared : (y e d n k r u : ℕ) → y ≡ e * d → 0 < n → n * e ≡ d * k → k * k * r ≤ u * u → y * y * r ≤ (d * d * u) * (d * d * u)
    squared y e d n k r u f g h b =
        let c : 1 * e ≤ n * e = mul-le 1 e n e g (omega arith) in
        let x : (e * d) * (e * d) ≤ (d * k * d) * (d * k * d) = mul-le (e * d) (e * d) (d * k * d) (d * k * d) (mul-le e d (d * k) d (omega arith) (omega arith)) (mul-le e d (d * k) d (omega arith) (omega arith)) in
        let w : ((e * d) * (e * d)) * r ≤ ((d * k * d) * (d * k * d)) * r = mul-le ((e * d) * (e * d)) r ((d * k * d) * (d * k * d)) r x (omega arith) in
        let v : ((d * d) * (d * d)) * (k * k * r) ≤ ((d * d) * (d * d)) * (u * u) = mul-le ((d * d) * (d * d)) (k * k * r) ((d * d) * (d * d)) (u * u) (omega arith) b in
        omega (arith, ap (λ c. c * c * r) f)

    at : (j m f t u w : ℕ) → 0 < f → 0 < t → j ≡ f * m → w ≤ t * u → max j w + 0 ≤ (f * t) * (max m u + 0)
    at j m f t u w p q e h =
        let a : f * m ≤ f * max m u = mul-le f m f (max m u) (omega arith) (omega arith) in
        let b : (f * max m u) * 1 ≤ (f * max m u) * t = mul-le (f * max m u) 1 (f * max m u) t (omega arith) q in
        let c : t * u ≤ t * max m u = mul-le t u t (max m u) (omega arith) (omega arith) in
        let d : 1 * (t * max m u) ≤ f * (t * max m u) = mul-le 1 (t * max m u) f (t * max m u) p (omega arith) in
        omega arith

pub inverse_one_by_one : (a : Term) (h l : ℕ) → a.coefficient ≢ zero_fraction → 0 < a.radicand → IsHeldByOne (a ∷ []) h l → IsHeldByOne (inverse_of a ∷ []) (h + 2 * l) (2 * h + 2 * l)
inverse_one_by_one a h l na ra k = record {
  denominator = z.factor;
  parts = one_parts a d d z;
  low = subst (λ c. z.factor ≤ 2 ^ c) (doubled h l) (trans z.factor ((d * 2 ^ h) * (d * 2 ^ h)) (2 ^ ((h + l) + (h + l))) (trans z.factor (n * n * a.radicand) ((d * 2 ^ h) * (d * 2 ^ h)) z.at_most square) (square_bound d h l k.low));
  high = bound (root_above (y * y * a.radicand)) d n a.radicand y z.factor (2 ^ l) (2 ^ (h + 2 * l)) z.is z.same (magnitude_positive a.coefficient d na k.parts.positive k.parts.whole.0) ra k.low (pow-le-pow_right {n = 2} (omega arith) (omega arith)) (λ u g. root_least (y * y * a.radicand) u g);
}
  where
    d : ℕ
    d = k.denominator

    z : MeasuredOne a d d
    z = measured_one a d d na ra k.parts

    n : ℕ
    n = magnitude_over d a.coefficient

    y : ℕ
    y = magnitude_over z.factor (inverse_of a).coefficient

    trans : (a b c : ℕ) → a ≤ b → b ≤ c → a ≤ c
    trans a b c h k = omega arith

    square : n * n * a.radicand ≤ (d * 2 ^ h) * (d * 2 ^ h)
    square =
        let u : ℕ = root_above (n * n * a.radicand) in
        let x : u ≤ d * 2 ^ h = at u (term_mass 0 d a) (d * 2 ^ h) (omega arith) k.high in
        let c : u * u ≤ (d * 2 ^ h) * (d * 2 ^ h) = mul-le u u (d * 2 ^ h) (d * 2 ^ h) x x in
        let e : n * n * a.radicand ≤ u * u = root_enough (n * n * a.radicand) in
        trans (n * n * a.radicand) (u * u) ((d * 2 ^ h) * (d * 2 ^ h)) e c
      where
        at : (u m p : ℕ) → u ≤ m → m + 0 ≤ p → u ≤ p
        at u m p h k = omega arith

    doubled : (h l : ℕ) → (h + l) + (h + l) ≡ 2 * h + 2 * l
    doubled h l = omega arith

    bound : (t d n r y f p q : ℕ) → y ≡ d → f ≡ n * r → 0 < n → 0 < r → d ≤ p → p ≤ q → ((u : ℕ) → y * y * r ≤ u * u → t ≤ u) → max 0 t + 0 ≤ f * q
    bound t d n r y f p q e g hn hr a b least =
        let x : t ≤ d * r = least (d * r) (within (mul-le (d * d * r) 1 (d * d * r) r (omega arith) hr)) in
        let c : d * (1 * r) ≤ q * (n * r) = mul-le d (1 * r) q (n * r) (omega arith) (mul-le 1 r n r hn (omega arith)) in
        let i : f * q ≡ (n * r) * q = ap (λ z. z * q) g in
        omega arith
      where
        within : (d * d * r) * 1 ≤ (d * d * r) * r → y * y * r ≤ (d * r) * (d * r)
        within w = omega (arith, ap (λ c. c * c * r) e)
