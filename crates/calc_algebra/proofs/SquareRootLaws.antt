-- Square roots rounded down, and when a number is a square.
use Rattle.calc_algebra.proofs.Shared.{ℕ, zero, suc, ◌+◌, ◌*◌, ◌/◌, ◌%◌, ◌-◌, ◌≡◌, ◌≤◌, ◌<◌, Bool, true, false, nat_le, refl, ap, ◌∙◌, arith, leb-true}
use Rattle.calc_algebra.proofs.Shared.{mul_pos, leb-false, next_square_root, square_root_in, square_root, IsSquareRoot}

next_square_root_is : (n r : ℕ) → IsSquareRoot (n / 4) r → IsSquareRoot n (next_square_root n r)
next_square_root_is n r h = by (nat_le ((2 * r + 1) * (2 * r + 1)) n) refl
  where
    by : (b : Bool) → nat_le ((2 * r + 1) * (2 * r + 1)) n ≡ b → IsSquareRoot n (elim b [ true ↦ 2 * r + 1 | false ↦ 2 * r ])
    by true e = record { within = leb-true _ _ e; above = omega (arith, h.above) }
    by false e = record { within = omega (arith, h.within); above = omega (arith, leb-false _ _ e) }

square_root_in_is : (fuel n : ℕ) → n ≤ fuel → IsSquareRoot n (square_root_in fuel n)
square_root_in_is zero zero h = record { within = omega arith; above = omega arith }
square_root_in_is zero (suc n) h = absurd (omega arith)
square_root_in_is (suc fuel) zero h = record { within = omega arith; above = omega arith }
square_root_in_is (suc fuel) (suc n) h = next_square_root_is (suc n) _ (square_root_in_is fuel (suc n / 4) (omega arith))

pub square_root_is : (n : ℕ) → IsSquareRoot n (square_root n)
unfolding square_root
square_root_is n = square_root_in_is n n (omega arith)

-- squares grow
pub square_le : (a b : ℕ) → a * a < (b + 1) * (b + 1) → a ≤ b
square_le a b h = grind arith

pub one_square_root : (n r s : ℕ) → IsSquareRoot n r → IsSquareRoot n s → r ≡ s
one_square_root n r s h k = grind arith

pub square_root-square : (t : ℕ) → square_root (t * t) ≡ t
square_root-square t = one_square_root (t * t) _ t (square_root_is (t * t)) (record { within = omega arith; above = omega arith })

pub mul_cancel : (x y s : ℕ) → 0 < s → x * s ≡ y * s → x ≡ y
mul_cancel x y s p h = grind arith

pub le_by_scaled : (x y s : ℕ) → 0 < s → x * s ≤ y * s → x ≤ y
le_by_scaled x y s p h = grind arith

no_more : (n s m k r : ℕ) → 0 < s → n * (s * s) ≡ m * m → m ≡ s * k + r → k * m ≤ n * s
no_more n s m k r p e f = le_by_scaled (k * m) (n * s) s p (omega (arith, ap (λ x. m * x) f))

descent : (n s k r d : ℕ) → n * (s * s) ≡ (s * k + r) * (s * k + r) → k * (s * k + r) + d ≡ n * s → n * (r * r) ≡ d * d
descent n s k r d e f = omega (arith, ap (λ x. x * x) f, ap (λ x. x * (k * (s * k + r))) f, ap (λ x. n * x) e, ap (λ x. k * k * x) e)

-- if n times a square is a square, n is a square
square_in : (fuel n s m : ℕ) → s ≤ fuel → 0 < s → n * (s * s) ≡ m * m → (t : ℕ) × (n ≡ t * t)
square_in zero n s m f p e = absurd (omega arith)
square_in (suc fuel) n s m f p e = by (λ n s m f p e. square_in fuel n s m f p e) (m % s) refl
  where
    k : ℕ
    k = m / s

    split : (r : ℕ) → m % s ≡ r → m ≡ s * k + r
    split r h = omega arith

    Goes : Type 0
    Goes = (n s m : ℕ) → s ≤ fuel → 0 < s → n * (s * s) ≡ m * m → (t : ℕ) × (n ≡ t * t)

    by : Goes → (r : ℕ) → m % s ≡ r → (t : ℕ) × (n ≡ t * t)
    by go zero h = (k, mul_cancel n (k * k) (s * s) (mul_pos s s p p) (e ∙ ap (λ x. x * x) (split zero h) ∙ omega arith))
    by go (suc r) h =
        let le : k * m ≤ n * s = no_more n s m k (suc r) p e (split (suc r) h) in
        let d : ℕ = n * s - k * m in
        go n (suc r) d (omega arith) (omega arith)
        (descent n s k (suc r) d (e ∙ ap (λ x. x * x) (split (suc r) h)) (rw (← split (suc r) h) (omega arith)))

pub square_from_scaled : (n s m : ℕ) → 0 < s → n * (s * s) ≡ m * m → (t : ℕ) × (n ≡ t * t)
square_from_scaled n s m = square_in s n s m (omega arith)
