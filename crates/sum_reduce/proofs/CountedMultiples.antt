-- Multiples of how often an exponent counts its base.
use Rattle.sum_reduce.proofs.Shared.{◌≡◌, ℕ, suc, ◌+◌, ◌*◌, ◌≤◌, ℤ, pos, negsuc, ◌+ℤ◌, ◌*ℤ◌, refl, ap, arith, mul-le, Counts, counts, added, IsWithin}
use Rattle.tree_bits.specs.Exponents.{multiple}

-- ---- within

pub within_same : (c : Counts) → IsWithin c c
within_same c = record { up = omega arith; down = omega arith }

pub within_after : {c d e : Counts} → IsWithin c d → IsWithin d e → IsWithin c e
within_after a b = record { up = omega (arith, a.up, b.up); down = omega (arith, a.down, b.down) }

pub within_both : {c d e f : Counts} → IsWithin c d → IsWithin e f → IsWithin (added c e) (added d f)
within_both a b = record { up = omega (arith, a.up, b.up); down = omega (arith, a.down, b.down) }

pub nothing_within : (c : Counts) → IsWithin (counts 0 0) c
nothing_within c = record { up = omega arith; down = omega arith }

-- ---- whole numbers by their signs

abbrev above : ℤ → ℕ
above (pos n) = n
above (negsuc n) = 0

abbrev below : ℤ → ℕ
below (pos n) = 0
below (negsuc n) = suc n

record IsMultiple (z : ℤ) (c : Counts) : Type 0 where
  up : (multiple z c).up ≡ above z * c.up + below z * c.down
  down : (multiple z c).down ≡ above z * c.down + below z * c.up

by_signs : (z : ℤ) (c : Counts) → IsMultiple z c
by_signs z c = grind arith

-- ---- sums

record IsSumOf (y z w : ℤ) : Type 0 where
  above-most : above w ≤ above y + above z
  below-most : below w ≤ below y + below z

sum_signs : (y z w : ℤ) → y +ℤ z ≡ w → IsSumOf y z w
sum_signs y z w e = grind arith

spread : (w y z u v p : ℕ) → w ≤ y + z → u ≤ v + p → (q r : ℕ) → w * q + u * r ≤ (y * q + v * r) + (z * q + p * r)
spread w y z u v p h k q r =
    let a : w * q ≤ (y + z) * q = mul-le w q (y + z) q h (omega arith) in
    let b : u * r ≤ (v + p) * r = mul-le u r (v + p) r k (omega arith) in
    omega (arith, a, b)

pub sum_within : (y z : ℤ) (c : Counts) → IsWithin (multiple (y +ℤ z) c) (added (multiple y c) (multiple z c))
sum_within y z c =
    let s = sum_signs y z (y +ℤ z) refl in
    let a = by_signs y c in
    let b = by_signs z c in
    let d = by_signs (y +ℤ z) c in
    record {
      up = omega (arith, a.up, b.up, d.up, spread (above (y +ℤ z)) (above y) (above z) (below (y +ℤ z)) (below y) (below z) s.above-most s.below-most c.up c.down);
      down = omega (arith, a.down, b.down, d.down, spread (above (y +ℤ z)) (above y) (above z) (below (y +ℤ z)) (below y) (below z) s.above-most s.below-most c.down c.up);
    }

-- ---- multiples of multiples, and of sums

record IsProductOf (y z : ℤ) : Type 0 where
  above-is : above (y *ℤ z) ≡ above y * above z + below y * below z
  below-is : below (y *ℤ z) ≡ above y * below z + below y * above z

product_signs : (y z : ℤ) → IsProductOf y z
product_signs y z = grind arith

regrouped : (p n s t y z u d : ℕ) → p ≡ s * y + t * z → n ≡ s * z + t * y → p * u + n * d ≡ s * (y * u + z * d) + t * (y * d + z * u)
regrouped p n s t y z u d e f = omega (arith, ap (λ x. x * u) e, ap (λ x. x * d) f)

pub product_within : (y z : ℤ) (c : Counts) → IsWithin (multiple (y *ℤ z) c) (multiple y (multiple z c))
product_within y z c = grind (arith, product_signs, by_signs, regrouped)

pub multiple_added : (z : ℤ) (c d : Counts) → IsWithin (added (multiple z c) (multiple z d)) (multiple z (added c d))
multiple_added z c d = grind arith
