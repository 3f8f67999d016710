-- Terms that are held within 124 bits can be inverted, and what holds their inverses.
use Rattle.surd_bits.proofs.Shared.{trans, ◌≡◌, ◌≢◌, ℕ, ◌+◌, ◌*◌, ◌^◌, ◌≤◌, ◌<◌, max, List, [], ◌∷◌, true, false, pos, None, refl, sym, ap, ◌∙◌, subst, arith, mul-le, pow-add, pow_pos, dvd_trans}
use Rattle.surd_bits.proofs.Shared.{dvd-mul_left, pow-le-pow_right, fraction_fits, sum_fits, Fraction, times, negative, inverse, whole_fraction, zero_fraction, mul_pos, are_alike, Term, term_not_zero}
use Rattle.surd_bits.proofs.Shared.{difference_not_zero, magnitude_over, root_above, term_mass, IsHeld, multiple_fits, sum_fits_over, magnitudes_cross, passed, cancel_le, magnitude_scale, times_den}
use Rattle.surd_bits.proofs.Shared.{magnitude_times, multiple_den, plus_den, root_enough, root_least, root_scale, Add, Mul, Calculation, calculation, first_misfit, scaling, inverse_calculations}
use Rattle.surd_bits.proofs.{Shared.{inverse_of_sum_calculations, inverse_of, square_of, conjugate_product, first_of_inverse, second_of_inverse, ◌∣◌, mul_comm, magnitude_plus}, Bounds.{held_bound}}
use Rattle.surd_bits.proofs.{Bounds.{square_bound, power_fits, denominator_bound, magnitude_whole, magnitude_positive, one_held, root_at_most}, Inverses.{OverInverse, over_inverse, negative_den}}
use Rattle.surd_bits.proofs.Inverses.{magnitude_negative, square_den, square_magnitude, OverDifference, over_difference}

-- n * n is at most n * n * r
without_root : (n r : ℕ) → 0 < r → n * n ≤ n * n * r
without_root n r h = let l : n * n * 1 ≤ n * n * r = mul-le (n * n) 1 (n * n) r (omega arith) h in omega arith

-- n * r is at most n * n * r
without_factor : (n r : ℕ) → 0 < n → n * r ≤ n * n * r
without_factor n r h = let l : 1 * (n * r) ≤ n * (n * r) = mul-le 1 (n * r) n (n * r) h (omega arith) in omega arith

-- two squares together, over another denominator
pub two_squares : (n r m s d e k j u w p : ℕ) → 0 < e → n * e ≡ d * k → m * e ≡ d * j → k * k * r ≤ u * u → j * j * s ≤ w * w → u + w ≤ e * p
    → n * n * r + m * m * s ≤ (d * p) * (d * p)
two_squares n r m s d e k j u w p h f g a b c =
    let x : (u + w) * (u + w) ≤ (e * p) * (e * p) = mul-le (u + w) (u + w) (e * p) (e * p) c c in
    let y : (d * d) * (k * k * r + j * j * s) ≤ (d * d) * ((e * p) * (e * p)) = mul-le (d * d) (k * k * r + j * j * s) (d * d) ((e * p) * (e * p)) (omega arith) (omega arith) in
    cancel_le (n * n * r + m * m * s) ((d * p) * (d * p)) (e * e) (mul_pos e e h h) (omega (arith, y, ap (λ z. z * z * r) f, ap (λ z. z * z * s) g))

-- ---- masses

-- a term over c times 1/Δ has at most f * d * d times the mass that it has over c
pub over_term : (j m d e f : ℕ) (c k : Fraction) (r x : ℕ) → 0 < d → 0 < f → j ≡ f * m → OverDifference d e f c k → magnitude_over e c ≡ x
    → max j (root_above (magnitude_over (e * f) (times c k) * magnitude_over (e * f) (times c k) * r)) ≤ (f * (d * d)) * max m (root_above (x * x * r))
over_term j m d e f c k r x hd hf hj o g =
    both j m f (d * d) (root_above (x * x * r)) (root_above (y * y * r)) hf (mul_pos d d hd hd) hj
    (subst (λ z. root_above z ≤ d * d * root_above (x * x * r)) (sym (squared (d * d) x y r (o.scaled_is ∙ ap (λ z. z * (d * d)) g))) (root_scale (d * d) (x * x * r)))
  where
    y : ℕ
    y = magnitude_over (e * f) (times c k)

    squared : (t x y r : ℕ) → y ≡ x * t → y * y * r ≡ t * t * (x * x * r)
    squared t x y r e = ap (λ z. z * z * r) e ∙ omega arith

    both : (j m f t u w : ℕ) → 0 < f → 0 < t → j ≡ f * m → w ≤ t * u → max j w ≤ (f * t) * max m u
    both j m f t u w p q e h =
        let a : f * m ≤ f * max m u = mul-le f m f (max m u) (omega arith) (omega arith) in
        let b : (f * max m u) * 1 ≤ (f * max m u) * t = mul-le (f * max m u) 1 (f * max m u) t (omega arith) q in
        let c : t * u ≤ t * max m u = mul-le t u t (max m u) (omega arith) (omega arith) in
        let d : 1 * (t * max m u) ≤ f * (t * max m u) = mul-le 1 (t * max m u) f (t * max m u) p (omega arith) in
        omega arith

pub square_of_two : (d l : ℕ) → d ≤ 2 ^ l → d * d ≤ 2 ^ (2 * l)
square_of_two d l h =
    let a : d * d ≤ 2 ^ l * 2 ^ l = mul-le d d (2 ^ l) (2 ^ l) h h in
    let b : 2 ^ (l + l) ≡ 2 ^ l * 2 ^ l = pow-add 2 l l in
    subst (λ z. d * d ≤ 2 ^ z) (double l) (omega arith)
  where
    double : (l : ℕ) → l + l ≡ 2 * l
    double l = omega arith

two_masses : (x y u w f d e h l : ℕ) → x ≤ (f * (d * d)) * u → y ≤ (f * (d * d)) * w → u + (w + 0) ≤ e * 2 ^ h → d ≤ 2 ^ l → x + (y + 0) ≤ (e * f) * 2 ^ (h + 2 * l)
two_masses x y u w f d e h l p q r s =
    let a : (f * (d * d)) * (u + w) ≤ (f * (d * d)) * (e * 2 ^ h) = mul-le (f * (d * d)) (u + w) (f * (d * d)) (e * 2 ^ h) (omega arith) (omega arith) in
    let b : (f * (e * 2 ^ h)) * (d * d) ≤ (f * (e * 2 ^ h)) * 2 ^ (2 * l) = mul-le (f * (e * 2 ^ h)) (d * d) (f * (e * 2 ^ h)) (2 ^ (2 * l)) (omega arith) (square_of_two d l s) in
    let c : 2 ^ (h + 2 * l) ≡ 2 ^ h * 2 ^ (2 * l) = pow-add 2 h (2 * l) in
    let t : (e * f) * 2 ^ (h + 2 * l) ≡ (e * f) * (2 ^ h * 2 ^ (2 * l)) = ap (λ z. (e * f) * z) c in
    omega arith

-- e * d, squared and times r, over the inverse of one term
one_mass : (e d n r u h l : ℕ) → 0 < n → 0 < r → d ≤ 2 ^ l → u ≡ e * d → max (e * (n * r)) (root_above (u * u * r)) + 0 ≤ (e * (n * r)) * 2 ^ (h + 2 * l)
one_mass e d n r u h l hn hr a f =
    let p : 1 ≤ 2 ^ (h + 2 * l) = pow_pos (h + 2 * l) in
    let q : (e * (n * r)) * 1 ≤ (e * (n * r)) * 2 ^ (h + 2 * l) = mul-le (e * (n * r)) 1 (e * (n * r)) (2 ^ (h + 2 * l)) (omega arith) p in
    let w : 2 ^ l ≤ 2 ^ (h + 2 * l) = pow-le-pow_right {n = 2} (omega arith) (omega arith) in
    let x : d * (e * (1 * r)) ≤ 2 ^ (h + 2 * l) * (e * (n * r)) = mul-le d (e * (1 * r)) (2 ^ (h + 2 * l)) (e * (n * r)) (omega arith) (mul-le e (1 * r) e (n * r) (omega arith) (mul-le 1 r n r hn (omega arith))) in
    let y : root_above (u * u * r) ≤ e * d * r = root_least (u * u * r) (e * d * r) (within (mul-le ((e * d) * (e * d) * r) 1 ((e * d) * (e * d) * r) r (omega arith) hr)) in
    omega arith
  where
    within : ((e * d) * (e * d) * r) * 1 ≤ ((e * d) * (e * d) * r) * r → u * u * r ≤ (e * d * r) * (e * d * r)
    within z = omega (arith, ap (λ c. c * c * r) f)

-- ---- one term

module _ (a : Term) (h l : ℕ) (na : a.coefficient ≢ zero_fraction) (ra : 0 < a.radicand) (k : IsHeld (a ∷ []) h l) where
  one_square : magnitude_over k.denominator a.coefficient * magnitude_over k.denominator a.coefficient * a.radicand ≤ (k.denominator * 2 ^ h) * (k.denominator * 2 ^ h)
  one_square = one_held a k.denominator k.scale (term_mass k.scale k.scale a) h k.scaled.positive k.parts.whole.0 k.scaled.whole.0 (omega arith) (at (term_mass k.scale k.scale a) (k.scale * 2 ^ h) k.high)
    where
      at : (m p : ℕ) → m + 0 ≤ p → m ≤ p
      at m p h = omega arith

  one_positive : 0 < magnitude_over k.denominator a.coefficient
  one_positive = magnitude_positive a.coefficient k.denominator na k.parts.positive k.parts.whole.0

  one_over : magnitude_over k.denominator a.coefficient * a.radicand ≤ 2 ^ ((h + l) + (h + l))
  one_over = grind (arith, trans, without_factor, one_positive, one_square, square_bound)

  pub inverse_fits : 2 * h + 4 * l ≤ 124 → first_misfit (inverse_calculations a) ≡ None
  inverse_fits bits =
      let d : ℕ = k.denominator in
      let n : ℕ = magnitude_over d a.coefficient in
      passed (scaling a a.radicand) []
      (multiple_fits d (times a.coefficient (whole_fraction (pos a.radicand))) k.parts.positive (multiple_den a.coefficient (pos a.radicand) d k.parts.whole.0)
      (power_fits d (h + l) (denominator_bound d h l k.low) (omega arith))
      (subst (λ z. z < 2 ^ 127) (sym (magnitude_whole a.coefficient d a.radicand k.parts.whole.0)) (power_fits (n * a.radicand) ((h + l) + (h + l)) one_over (omega arith))))

  pub inverse_held : IsHeld (inverse_of a ∷ []) (h + 2 * l) (2 * h + 2 * l)
  inverse_held = record {
    denominator = g;
    parts = record { positive = g-positive; whole = (whole, tt) };
    low = subst (λ z. g ≤ 2 ^ z) (omega arith) one_over;
    scale = k.scale * g;
    scaled = record { positive = mul_pos k.scale g k.scaled.positive g-positive; whole = (dvd_trans (inverse q).den whole (dvd-mul_left g k.scale), tt) };
    high = one_mass k.scale k.denominator (magnitude_over k.denominator a.coefficient) a.radicand (magnitude_over (k.scale * g) (inverse q)) h l one_positive ra k.low (magnitude_scale k.scale g (inverse q) whole ∙ ap (λ z. k.scale * z) is);
  }
    where
      q : Fraction
      q = times a.coefficient (whole_fraction (pos a.radicand))

      g : ℕ
      g = magnitude_over k.denominator a.coefficient * a.radicand

      g-is : magnitude_over k.denominator q ≡ g
      g-is = magnitude_whole a.coefficient k.denominator a.radicand k.parts.whole.0

      g-positive : 0 < g
      g-positive = mul_pos (magnitude_over k.denominator a.coefficient) a.radicand one_positive ra

      over : OverInverse k.denominator q
      over = over_inverse k.denominator q (term_not_zero a.coefficient a.radicand na ra) k.parts.positive (multiple_den a.coefficient (pos a.radicand) k.denominator k.parts.whole.0)

      whole : (inverse q).den ∣ g
      whole = subst (λ z. (inverse q).den ∣ z) g-is over.whole

      is : magnitude_over g (inverse q) ≡ k.denominator
      is = subst (λ z. magnitude_over z (inverse q) ≡ k.denominator) g-is over.is

-- ---- two terms

module _ (a b : Term) (h l : ℕ) (na : a.coefficient ≢ zero_fraction) (nb : b.coefficient ≢ zero_fraction) (ra : 0 < a.radicand) (rb : 0 < b.radicand)
    (apart : are_alike a.radicand b.radicand ≡ false) (k : IsHeld (a ∷ b ∷ []) h l) where
  d : ℕ
  d = k.denominator

  e : ℕ
  e = k.scale

  n : ℕ
  n = magnitude_over k.denominator a.coefficient

  m : ℕ
  m = magnitude_over k.denominator b.coefficient

  squares : n * n * a.radicand + m * m * b.radicand ≤ (k.denominator * 2 ^ h) * (k.denominator * 2 ^ h)
  unfolding d e n m
  squares =
      let x : ℕ = magnitude_over e a.coefficient in
      let y : ℕ = magnitude_over e b.coefficient in
      let u : ℕ = root_above (x * x * a.radicand) in
      let w : ℕ = root_above (y * y * b.radicand) in
      two_squares n a.radicand m b.radicand d e x y u w (2 ^ h) k.scaled.positive
      (magnitudes_cross d e a.coefficient k.parts.whole.0 k.scaled.whole.0) (magnitudes_cross d e b.coefficient (k.parts.whole.1).0 (k.scaled.whole.1).0)
      (root_enough (x * x * a.radicand)) (root_enough (y * y * b.radicand)) (both u w (term_mass e e a) (term_mass e e b) (e * 2 ^ h) (omega arith) (omega arith) k.high)
    where
      both : (u w a b p : ℕ) → u ≤ a → w ≤ b → a + (b + 0) ≤ p → u + w ≤ p
      both u w a b p f g h = omega arith

  pa : a.coefficient.den ∣ k.denominator
  pa = k.parts.whole.0

  pb : b.coefficient.den ∣ k.denominator
  pb = (k.parts.whole.1).0

  D : ℕ
  D = k.denominator * k.denominator

  D-positive : 0 < k.denominator * k.denominator
  D-positive = mul_pos k.denominator k.denominator k.parts.positive k.parts.positive

  not_zero : conjugate_product a b ≢ zero_fraction
  not_zero = difference_not_zero a.coefficient b.coefficient a.radicand b.radicand na ra rb apart

  second-den : (negative (square_of b)).den ∣ k.denominator * k.denominator
  second-den = negative_den (square_of b) (k.denominator * k.denominator) (square_den b k.denominator pb)

  difference-den : (conjugate_product a b).den ∣ k.denominator * k.denominator
  difference-den = plus_den (square_of a) (negative (square_of b)) (k.denominator * k.denominator) D-positive (square_den a k.denominator pa) second-den

  pub f : ℕ
  f = magnitude_over (k.denominator * k.denominator) (conjugate_product a b)

  second-is : magnitude_over (k.denominator * k.denominator) (negative (square_of b)) ≡ m * m * b.radicand
  unfolding m
  second-is = magnitude_negative (square_of b) (k.denominator * k.denominator) (square_den b k.denominator pb) ∙ square_magnitude b k.denominator pb

  f-positive : 0 < f
  unfolding f
  f-positive = magnitude_positive (conjugate_product a b) (k.denominator * k.denominator) not_zero D-positive difference-den

  f-at_most : f ≤ n * n * a.radicand + m * m * b.radicand
  unfolding f n
  f-at_most = grind (arith, f, magnitude_plus, D-positive, square_den, pa, second-den, square_magnitude, second-is)

  f-bound : f ≤ 2 ^ ((h + l) + (h + l))
  f-bound = grind (arith, trans, f, n, m, f-at_most, squares, square_bound)

  sum-bound : n * n * a.radicand + m * m * b.radicand ≤ 2 ^ ((h + l) + (h + l))
  sum-bound = trans (n * n * a.radicand + m * m * b.radicand) ((k.denominator * 2 ^ h) * (k.denominator * 2 ^ h)) (2 ^ ((h + l) + (h + l))) squares (square_bound k.denominator h l k.low)

  D-bound : k.denominator * k.denominator ≤ 2 ^ ((h + l) + (h + l))
  D-bound =
      let x : k.denominator ≤ 2 ^ (h + l) = denominator_bound k.denominator h l k.low in
      let y : k.denominator * k.denominator ≤ 2 ^ (h + l) * 2 ^ (h + l) = mul-le k.denominator k.denominator (2 ^ (h + l)) (2 ^ (h + l)) x x in
      omega (arith, pow-add 2 (h + l) (h + l))

  first-bound : n * n * a.radicand ≤ 2 ^ ((h + l) + (h + l))
  first-bound = grind (arith, n, m, sum-bound)

  second-bound : m * m * b.radicand ≤ 2 ^ ((h + l) + (h + l))
  second-bound = grind (arith, n, m, sum-bound)

  -- n * d, where n * n * r is at most the square of d * 2 ^ h
  over-bound : (n r : ℕ) → 0 < r → n * n * r ≤ (k.denominator * 2 ^ h) * (k.denominator * 2 ^ h) → n * k.denominator ≤ 2 ^ ((h + l) + l)
  over-bound n r p q =
      let x : n ≤ k.denominator * 2 ^ h = root_at_most n r (k.denominator * 2 ^ h) p q in
      let y : n ≤ 2 ^ (h + l) = trans n (k.denominator * 2 ^ h) (2 ^ (h + l)) x (held_bound k.denominator h l k.low) in
      let z : n * k.denominator ≤ 2 ^ (h + l) * 2 ^ l = mul-le n k.denominator (2 ^ (h + l)) (2 ^ l) y k.low in
      omega (arith, pow-add 2 (h + l) l)

  difference : OverInverse (k.denominator * k.denominator) (conjugate_product a b)
  difference = over_inverse (k.denominator * k.denominator) (conjugate_product a b) not_zero D-positive difference-den

  first-over : OverDifference k.denominator k.scale f a.coefficient (inverse (conjugate_product a b))
  unfolding f
  first-over = over_difference k.denominator k.scale f a.coefficient (inverse (conjugate_product a b)) k.parts.positive f-positive pa k.scaled.whole.0 difference.whole difference.is

  second-over : OverDifference k.denominator k.scale f (negative b.coefficient) (inverse (conjugate_product a b))
  unfolding f
  second-over = over_difference k.denominator k.scale f (negative b.coefficient) (inverse (conjugate_product a b)) k.parts.positive f-positive (negative_den b.coefficient k.denominator pb) (negative_den b.coefficient k.scale (k.scaled.whole.1).0) difference.whole difference.is

  left-square : n * n * a.radicand ≤ (k.denominator * 2 ^ h) * (k.denominator * 2 ^ h)
  left-square = grind (arith, n, m, squares)

  right-square : m * m * b.radicand ≤ (k.denominator * 2 ^ h) * (k.denominator * 2 ^ h)
  right-square = grind (arith, n, m, squares)

  -- ---- what holds the inverse

  first-mass : term_mass (k.scale * f) (k.scale * f) (first_of_inverse a b) ≤ (f * (k.denominator * k.denominator)) * term_mass k.scale k.scale a
  first-mass = over_term (k.scale * f) k.scale k.denominator k.scale f a.coefficient (inverse (conjugate_product a b)) a.radicand (magnitude_over k.scale a.coefficient) k.parts.positive f-positive (mul_comm k.scale f) first-over refl

  second-mass : term_mass (k.scale * f) (k.scale * f) (second_of_inverse a b) ≤ (f * (k.denominator * k.denominator)) * term_mass k.scale k.scale b
  second-mass = over_term (k.scale * f) k.scale k.denominator k.scale f (negative b.coefficient) (inverse (conjugate_product a b)) b.radicand (magnitude_over k.scale b.coefficient) k.parts.positive f-positive (mul_comm k.scale f) second-over (magnitude_negative b.coefficient k.scale (k.scaled.whole.1).0)

  pub inverse_of_sum_held : IsHeld (first_of_inverse a b ∷ second_of_inverse a b ∷ []) (h + 2 * l) (2 * h + 2 * l)
  inverse_of_sum_held = record {
    denominator = f;
    parts = record { positive = f-positive; whole = (first-over.whole, (second-over.whole, tt)) };
    low = subst (λ z. f ≤ 2 ^ z) (omega arith) f-bound;
    scale = k.scale * f;
    scaled = record { positive = mul_pos k.scale f k.scaled.positive f-positive; whole = (first-over.scaled, (second-over.scaled, tt)) };
    high = two_masses _ _ (term_mass k.scale k.scale a) (term_mass k.scale k.scale b) f k.denominator k.scale h l first-mass second-mass k.high k.low;
  }

  -- what is known of f, and of the terms over it
  pub inverse_factor : (0 < f) × (f ≤ magnitude_over k.denominator a.coefficient * magnitude_over k.denominator a.coefficient * a.radicand
      + magnitude_over k.denominator b.coefficient * magnitude_over k.denominator b.coefficient * b.radicand)
  unfolding n m
  inverse_factor = (f-positive, f-at_most)

  pub inverse_terms : OverDifference k.denominator k.scale f a.coefficient (inverse (conjugate_product a b)) × OverDifference k.denominator k.scale f (negative b.coefficient) (inverse (conjugate_product a b))
  inverse_terms = (first-over, second-over)

  module _ (bits : 2 * h + 4 * l ≤ 124) where
    within : (x : ℕ) → x ≤ 2 ^ ((h + l) + (h + l)) → x < 2 ^ 127
    within x q = power_fits x ((h + l) + (h + l)) q (omega arith)

    within_over : (x : ℕ) → x ≤ 2 ^ ((h + l) + l) → x < 2 ^ 127
    within_over x q = power_fits x ((h + l) + l) q (omega arith)

    -- what is over D, by its magnitude there
    over_D : (x : Fraction) (u : ℕ) → x.den ∣ k.denominator * k.denominator → magnitude_over (k.denominator * k.denominator) x ≡ u → u ≤ 2 ^ ((h + l) + (h + l)) → fraction_fits x ≡ true
    over_D x u q r s = multiple_fits (k.denominator * k.denominator) x D-positive q (within (k.denominator * k.denominator) D-bound) (subst (λ z. z < 2 ^ 127) (sym r) (within u s))

    over_f : (x : Fraction) (u : ℕ) → x.den ∣ f → magnitude_over f x ≡ u → u ≤ 2 ^ ((h + l) + l) → fraction_fits x ≡ true
    over_f x u q r s = multiple_fits f x f-positive q (within f f-bound) (subst (λ z. z < 2 ^ 127) (sym r) (within_over u s))

    fit-1 : fraction_fits (times a.coefficient a.coefficient) ≡ true
    unfolding n
    fit-1 = over_D (times a.coefficient a.coefficient) (n * n) (times_den a.coefficient a.coefficient k.denominator k.denominator pa pa) (magnitude_times a.coefficient a.coefficient k.denominator k.denominator pa pa)
        (trans (n * n) (n * n * a.radicand) (2 ^ ((h + l) + (h + l))) (without_root n a.radicand ra) first-bound)

    fit-2 : fraction_fits (square_of a) ≡ true
    unfolding n
    fit-2 = over_D (square_of a) (n * n * a.radicand) (square_den a k.denominator pa) (square_magnitude a k.denominator pa) first-bound

    fit-3 : fraction_fits (times b.coefficient b.coefficient) ≡ true
    unfolding m
    fit-3 = over_D (times b.coefficient b.coefficient) (m * m) (times_den b.coefficient b.coefficient k.denominator k.denominator pb pb) (magnitude_times b.coefficient b.coefficient k.denominator k.denominator pb pb)
        (trans (m * m) (m * m * b.radicand) (2 ^ ((h + l) + (h + l))) (without_root m b.radicand rb) second-bound)

    fit-4 : fraction_fits (square_of b) ≡ true
    unfolding m
    fit-4 = over_D (square_of b) (m * m * b.radicand) (square_den b k.denominator pb) (square_magnitude b k.denominator pb) second-bound

    fit-5 : sum_fits (square_of a) (negative (square_of b)) ≡ true
    unfolding n
    fit-5 = sum_fits_over (square_of a) (negative (square_of b)) (k.denominator * k.denominator) D-positive (square_den a k.denominator pa) second-den (within (k.denominator * k.denominator) D-bound)
        (subst (λ z. z < 2 ^ 127) (λ i. sym (square_magnitude a k.denominator pa) i + sym second-is i) (within (n * n * a.radicand + m * m * b.radicand) sum-bound))

    fit-6 : fraction_fits (times a.coefficient (inverse (conjugate_product a b))) ≡ true
    unfolding n
    fit-6 = over_f (times a.coefficient (inverse (conjugate_product a b))) (n * k.denominator) first-over.whole first-over.is (over-bound n a.radicand ra left-square)

    fit-7 : fraction_fits (times (negative b.coefficient) (inverse (conjugate_product a b))) ≡ true
    unfolding m
    fit-7 = over_f (times (negative b.coefficient) (inverse (conjugate_product a b))) (m * k.denominator) second-over.whole
        (second-over.is ∙ ap (λ z. z * k.denominator) (magnitude_negative b.coefficient k.denominator pb)) (over-bound m b.radicand rb right-square)

    pub inverse_of_sum_fits : first_misfit (inverse_of_sum_calculations a b) ≡ None
    inverse_of_sum_fits =
        passed (calculation Mul a.coefficient a.coefficient) (calculation Mul (times a.coefficient a.coefficient) (whole_fraction (pos a.radicand)) ∷ rest-2) fit-1
        ∙ passed (calculation Mul (times a.coefficient a.coefficient) (whole_fraction (pos a.radicand))) rest-2 fit-2
        ∙ passed (calculation Mul b.coefficient b.coefficient) (calculation Mul (times b.coefficient b.coefficient) (whole_fraction (pos b.radicand)) ∷ rest-4) fit-3
        ∙ passed (calculation Mul (times b.coefficient b.coefficient) (whole_fraction (pos b.radicand))) rest-4 fit-4
        ∙ passed (calculation Add (square_of a) (negative (square_of b))) rest-5 fit-5
        ∙ passed (calculation Mul a.coefficient (inverse (conjugate_product a b))) (calculation Mul (negative b.coefficient) (inverse (conjugate_product a b)) ∷ []) fit-6
        ∙ passed (calculation Mul (negative b.coefficient) (inverse (conjugate_product a b))) [] fit-7
      where
        rest-5 : List Calculation
        rest-5 = calculation Mul a.coefficient (inverse (conjugate_product a b)) ∷ calculation Mul (negative b.coefficient) (inverse (conjugate_product a b)) ∷ []

        rest-4 : List Calculation
        rest-4 = calculation Add (square_of a) (negative (square_of b)) ∷ rest-5

        rest-2 : List Calculation
        rest-2 = calculation Mul b.coefficient b.coefficient ∷ calculation Mul (times b.coefficient b.coefficient) (whole_fraction (pos b.radicand)) ∷ rest-4
