-- Terms that are held within 124 bits can be joined.
use Rattle.surd_bits.proofs.Shared.{◌≡◌, ℕ, ◌+◌, ◌*◌, ◌/◌, ◌^◌, ◌≤◌, ◌<◌, [], ◌∷◌, Bool, true, false, pos, None, refl, sym, ap, ◌∙◌, subst, arith, passed, if◌then◌else◌, mul-le, fraction_fits}
use Rattle.surd_bits.proofs.Shared.{sum_fits, gcd, are_alike, Term, square_root_is, square_le, magnitude_over, root_above, term_mass, IsHeld, multiple_fits, sum_fits_over, magnitudes_cross, cancel_le}
use Rattle.surd_bits.proofs.Shared.{multiple_den, root_enough, Add, calculation, first_misfit, scaled, scaling, joining_calculations, ◌∣◌, part_le, square_root}
use Rattle.surd_bits.proofs.Bounds.{held_bound, power_fits, denominator_bound, magnitude_whole}

-- what is taken before the root is at most the root
taken_at_most : (r g : ℕ) → square_root (r / g) * square_root (r / g) ≤ r
taken_at_most r g = let a : square_root (r / g) * square_root (r / g) ≤ r / g = (square_root_is (r / g)).within in let b : r / g ≤ r = part_le r g in omega arith

-- n * s over d, where n over d is k over e, and s * s is at most r
scaled_bound : (n s d e k r u : ℕ) → n * e ≡ d * k → s * s ≤ r → k * k * r ≤ u * u → (n * s) * e ≤ d * u
scaled_bound n s d e k r u f a b =
    square_le ((n * s) * e) (d * u) (within (mul-le (k * k) (s * s) (k * k) r (omega arith) a))
  where
    within : (k * k) * (s * s) ≤ (k * k) * r → ((n * s) * e) * ((n * s) * e) < (d * u + 1) * (d * u + 1)
    within c =
        let g : (d * d) * ((k * k) * (s * s)) ≤ (d * d) * (u * u) = mul-le (d * d) ((k * k) * (s * s)) (d * d) (u * u) (omega arith) (omega arith) in
        omega (arith, ap (λ z. (z * s) * (z * s)) f)

two_scaled : (x y d e u w p : ℕ) → 0 < e → x * e ≤ d * u → y * e ≤ d * w → u + w ≤ e * p → x + y ≤ d * p
two_scaled x y d e u w p h a b c =
    let f : d * (u + w) ≤ d * (e * p) = mul-le d (u + w) d (e * p) (omega arith) c in
    cancel_le (x + y) (d * p) e h (omega arith)

left_of : (x y p : ℕ) → x + y ≤ p → x ≤ p
left_of x y p h = omega arith

right_of : (x y p : ℕ) → x + y ≤ p → y ≤ p
right_of x y p h = omega arith

both_below : (u w a b p : ℕ) → u ≤ a → w ≤ b → a + (b + 0) ≤ p → u + w ≤ p
both_below u w a b p f g h = omega arith

pub joins_fit : (a b : Term) (h l : ℕ) → IsHeld (a ∷ b ∷ []) h l → 2 * h + 4 * l ≤ 124 → first_misfit (joining_calculations a b) ≡ None
joins_fit a b h l k bits = by (are_alike a.radicand b.radicand)
  where
    d : ℕ
    d = k.denominator

    e : ℕ
    e = k.scale

    g : ℕ
    g = gcd a.radicand b.radicand

    s : ℕ
    s = square_root (a.radicand / g)

    t : ℕ
    t = square_root (b.radicand / g)

    m : ℕ
    m = magnitude_over e a.coefficient

    n : ℕ
    n = magnitude_over e b.coefficient

    u : ℕ
    u = root_above (m * m * a.radicand)

    w : ℕ
    w = root_above (n * n * b.radicand)

    x : ℕ
    x = magnitude_over d a.coefficient * s

    y : ℕ
    y = magnitude_over d b.coefficient * t

    pa : a.coefficient.den ∣ d
    pa = k.parts.whole.0

    pb : b.coefficient.den ∣ d
    pb = (k.parts.whole.1).0

    sum_small : x + y ≤ d * 2 ^ h
    sum_small =
        two_scaled x y d e u w (2 ^ h) k.scaled.positive
        (scaled_bound (magnitude_over d a.coefficient) s d e m a.radicand u (magnitudes_cross d e a.coefficient pa k.scaled.whole.0) (taken_at_most a.radicand g) (root_enough (m * m * a.radicand)))
        (scaled_bound (magnitude_over d b.coefficient) t d e n b.radicand w (magnitudes_cross d e b.coefficient pb (k.scaled.whole.1).0) (taken_at_most b.radicand g) (root_enough (n * n * b.radicand)))
        (both_below u w (term_mass e e a) (term_mass e e b) (e * 2 ^ h) (omega arith) (omega arith) k.high)

    whole_small : x + y < 2 ^ 127
    whole_small = power_fits (x + y) (h + l) (let z : d * 2 ^ h ≤ 2 ^ (h + l) = held_bound d h l k.low in trans (x + y) (d * 2 ^ h) (2 ^ (h + l)) sum_small z) (omega arith)
      where
        trans : (a b c : ℕ) → a ≤ b → b ≤ c → a ≤ c
        trans a b c h k = omega arith

    below : (a b c : ℕ) → a ≤ b → b < c → a < c
    below a b c h k = omega arith

    den_small : d < 2 ^ 127
    den_small = power_fits d (h + l) (denominator_bound d h l k.low) (omega arith)

    xa : (scaled a s).den ∣ d
    xa = multiple_den a.coefficient (pos s) d pa

    yb : (scaled b t).den ∣ d
    yb = multiple_den b.coefficient (pos t) d pb

    x-is : magnitude_over d (scaled a s) ≡ x
    x-is = magnitude_whole a.coefficient d s pa

    y-is : magnitude_over d (scaled b t) ≡ y
    y-is = magnitude_whole b.coefficient d t pb

    first : fraction_fits (scaled a s) ≡ true
    first = multiple_fits d (scaled a s) k.parts.positive xa den_small (subst (λ z. z < 2 ^ 127) (sym x-is) (below x (x + y) (2 ^ 127) (left_of x y (x + y) (omega arith)) whole_small))

    second : fraction_fits (scaled b t) ≡ true
    second = multiple_fits d (scaled b t) k.parts.positive yb den_small (subst (λ z. z < 2 ^ 127) (sym y-is) (below y (x + y) (2 ^ 127) (right_of x y (x + y) (omega arith)) whole_small))

    third : sum_fits (scaled a s) (scaled b t) ≡ true
    third = sum_fits_over (scaled a s) (scaled b t) d k.parts.positive xa yb den_small (subst (λ z. z < 2 ^ 127) (λ i. sym x-is i + sym y-is i) whole_small)

    by : (c : Bool) → first_misfit (if c then scaling a s ∷ scaling b t ∷ calculation Add (scaled a s) (scaled b t) ∷ [] else []) ≡ None
    by true = passed (scaling a s) (scaling b t ∷ calculation Add (scaled a s) (scaled b t) ∷ []) first ∙ passed (scaling b t) (calculation Add (scaled a s) (scaled b t) ∷ []) second ∙ passed (calculation Add (scaled a s) (scaled b t)) [] third
    by false = refl
