-- The least number whose square is at least a given one.
use Rattle.calc_bits.proofs.Shared.{◌≡◌, ℕ, suc, ◌+◌, ◌*◌, ◌≤◌, ◌<◌, ◌⊎◌, inl, inr, Bool, true, false, ◌==◌, refl, arith, if◌then◌else◌, eqb-true, eqb-false}
use Rattle.calc_bits.proofs.Shared.{cases_lt, mul-le, square_root, square_root_is, square_le, root_above}

pub root_enough : (n : ℕ) → n ≤ root_above n * root_above n
root_enough n = grind (arith, square_root_is)

pub root_least : (n u : ℕ) → n ≤ u * u → root_above n ≤ u
root_least n u h = by (square_root n * square_root n == n) refl
  where
    r : ℕ
    r = square_root n

    by : (b : Bool) → (r * r == n) ≡ b → (if b then r else suc r) ≤ u
    by true e = let f : r * r ≡ n = eqb-true (r * r) n e in square_le r u (omega arith)
    by false e = by_order (cases_lt r u)
      where
        by_order : (r < u) ⊎ (u ≤ r) → suc r ≤ u
        by_order (inl l) = omega arith
        by_order (inr l) =
            let w : r * r ≤ n = (square_root_is n).within in
            let m : u * u ≤ r * r = mul-le u u r r l l in
            absurd (eqb-false (r * r) n e (omega arith))

pub root_times : (a b : ℕ) → root_above (a * b) ≤ root_above a * root_above b
root_times a b = root_least (a * b) (root_above a * root_above b) (squared a b (root_above a) (root_above b) (root_enough a) (root_enough b))
  where
    squared : (a b u w : ℕ) → a ≤ u * u → b ≤ w * w → a * b ≤ (u * w) * (u * w)
    squared a b u w h k = let l : a * b ≤ (u * u) * (w * w) = mul-le a b (u * u) (w * w) h k in omega arith

pub root_scale : (j a : ℕ) → root_above (j * j * a) ≤ j * root_above a
root_scale j a = root_least (j * j * a) (j * root_above a) (squared j a (root_above a) (root_enough a))
  where
    squared : (j a u : ℕ) → a ≤ u * u → j * j * a ≤ (j * u) * (j * u)
    squared j a u h = let l : (j * j) * a ≤ (j * j) * (u * u) = mul-le (j * j) a (j * j) (u * u) (omega arith) h in omega arith

-- in squares over s: (x + y) squared is at most s times (u + w) squared, where x and y are so by themselves
pub square_sum : (x y s u w : ℕ) → x * x ≤ s * (u * u) → y * y ≤ s * (w * w) → (x + y) * (x + y) ≤ s * ((u + w) * (u + w))
square_sum x y s u w h k =
    let p : (x * x) * (y * y) ≤ (s * (u * u)) * (s * (w * w)) = mul-le (x * x) (y * y) (s * (u * u)) (s * (w * w)) h k in
    let c : x * y ≤ s * (u * w) = square_le (x * y) (s * (u * w)) (omega arith) in
    omega arith
