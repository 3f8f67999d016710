-- Terms whose product is held within 124 bits can be multiplied.
use Rattle.surd_bits.proofs.Shared.{◌≡◌, ◌≢◌, ℕ, ◌+◌, ◌*◌, ◌/◌, ◌^◌, ◌≤◌, ◌<◌, [], ◌∷◌, true, pos, ◌*ℤ◌, sym, ap, subst, arith, mul-le, part_le, fraction_fits, times, trans, whole_fraction}
use Rattle.surd_bits.proofs.Shared.{zero_fraction, times_lowest, Term, term_times, product_not_zero, square_le, magnitude_over, term_mass, IsHeld, multiple_fits, quotient_fits, multiple_den, ◌∣◌}
use Rattle.surd_bits.proofs.Bounds.{held_bound, square_bound, power_fits, denominator_bound, magnitude_whole, magnitude_positive, one_held, root_at_most}

-- with n at least 1
rest_below : (n r s g h b : ℕ) → 0 < n → n * n * (r * s) ≤ b → (r / g) * (s / h) ≤ b
rest_below n r s g h b p k =
    let x : (r / g) * (s / h) ≤ r * s = mul-le (r / g) (s / h) r s (part_le r g) (part_le s h) in
    let y : 1 * 1 ≤ n * n = mul-le 1 1 n n (omega arith) (omega arith) in
    let z : (1 * 1) * (r * s) ≤ (n * n) * (r * s) = mul-le (1 * 1) (r * s) (n * n) (r * s) y (omega arith) in
    omega arith

taken_below : (n r u t b : ℕ) → 0 < t → r ≡ u * u * t → n * n * r ≤ b * b → n * u ≤ b
taken_below n r u t b p e k =
    square_le (n * u) b (within (mul-le ((n * u) * (n * u)) 1 ((n * u) * (n * u)) t (omega arith) p))
  where
    within : ((n * u) * (n * u)) * 1 ≤ ((n * u) * (n * u)) * t → (n * u) * (n * u) < (b + 1) * (b + 1)
    within l = omega (arith, ap (λ z. n * n * z) e)

pub mul_positive : (a b : ℕ) → 0 < a → 0 < b → 0 < a * b
mul_positive a b h k = grind arith

mass_of_one : (m u p : ℕ) → u ≤ m → m + 0 ≤ p → u ≤ p
mass_of_one m u p h k = omega arith

module _ (a b : Term) (h l : ℕ) (na : a.coefficient ≢ zero_fraction) (nb : b.coefficient ≢ zero_fraction)
    (pa : 0 < a.radicand) (pb : 0 < b.radicand) (k : IsHeld (term_times a b ∷ []) h l) (bits : 2 * h + 4 * l ≤ 124) where
  n : ℕ
  n = magnitude_over k.denominator (times a.coefficient b.coefficient)

  whole : (times a.coefficient b.coefficient).den ∣ k.denominator
  whole = k.parts.whole.0

  square : n * n * (a.radicand * b.radicand) ≤ (k.denominator * 2 ^ h) * (k.denominator * 2 ^ h)
  unfolding n
  square = one_held (term_times a b) k.denominator k.scale (term_mass k.scale k.scale (term_times a b)) h k.scaled.positive whole k.scaled.whole.0 (omega arith) (mass_of_one (term_mass k.scale k.scale (term_times a b)) _ (k.scale * 2 ^ h) (omega arith) k.high)

  positive : 0 < n
  unfolding n
  positive = magnitude_positive (times a.coefficient b.coefficient) k.denominator (product_not_zero a.coefficient b.coefficient na nb) k.parts.positive whole

  bound : k.denominator * 2 ^ h ≤ 2 ^ (h + l)
  bound = held_bound k.denominator h l k.low

  num_small : n < 2 ^ 127
  num_small = power_fits n (h + l) (trans n (k.denominator * 2 ^ h) (2 ^ (h + l)) (root_at_most n (a.radicand * b.radicand) (k.denominator * 2 ^ h) (mul_positive a.radicand b.radicand pa pb) square) bound) (omega arith)

  den_small : k.denominator < 2 ^ 127
  den_small = power_fits k.denominator (h + l) (denominator_bound k.denominator h l k.low) (omega arith)

  -- the product of the coefficients
  pub coefficients_fit : fraction_fits (times a.coefficient b.coefficient) ≡ true
  unfolding n
  coefficients_fit = multiple_fits k.denominator (times a.coefficient b.coefficient) k.parts.positive whole den_small num_small

  -- that of the radicands, over whatever they share
  pub radicands_fit : (g : ℕ) → fraction_fits (times (whole_fraction (pos (a.radicand / g))) (whole_fraction (pos (b.radicand / g)))) ≡ true
  radicands_fit g =
      let x : ℕ = (a.radicand / g) * (b.radicand / g) in
      let y : ℕ = (k.denominator * 2 ^ h) * (k.denominator * 2 ^ h) in
      let one : 1 * 1 < 2 ^ 127 = omega arith in
      quotient_fits (times (whole_fraction (pos (a.radicand / g))) (whole_fraction (pos (b.radicand / g)))) (pos (a.radicand / g) *ℤ pos (b.radicand / g)) (1 * 1) (omega arith)
      (times_lowest (pos (a.radicand / g)) (pos (b.radicand / g)) 1 1 (omega arith) (omega arith))
      (power_fits x ((h + l) + (h + l)) (trans x y (2 ^ ((h + l) + (h + l))) (rest_below n a.radicand b.radicand g g y positive square) (square_bound k.denominator h l k.low)) (omega arith)) one

  -- the coefficient, once a square is taken before the root
  pub extracted_fits : (root rest : ℕ) → 0 < rest → a.radicand * b.radicand ≡ root * root * rest → fraction_fits (times (times a.coefficient b.coefficient) (whole_fraction (pos root))) ≡ true
  unfolding n
  extracted_fits root rest p e =
      multiple_fits k.denominator (times (times a.coefficient b.coefficient) (whole_fraction (pos root))) k.parts.positive (multiple_den (times a.coefficient b.coefficient) (pos root) k.denominator whole) den_small
      (subst (λ z. z < 2 ^ 127) (sym (magnitude_whole (times a.coefficient b.coefficient) k.denominator root whole))
      (power_fits (n * root) (h + l) (trans (n * root) (k.denominator * 2 ^ h) (2 ^ (h + l)) (taken_below n (a.radicand * b.radicand) root rest (k.denominator * 2 ^ h) p e square) bound) (omega arith)))
