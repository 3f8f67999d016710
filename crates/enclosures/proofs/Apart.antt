-- A whole number and a whole multiple of an irrational root are apart.
use Rattle.std.proofs.Common.{◌≡◌, ℕ, zero, suc, ◌+◌, ◌-◌, ◌*◌, ◌<◌, ◌≤◌, ◌⊎◌, inl, inr, sym, subst, arith}
use Rattle.std.proofs.{lemmas.Nat.{mul-le}, Math.Nat.{mul-le-mul_left, mul-le-mul_right, le_of_mul-le-mul_right}}
use Rattle.calc_algebra.specs.SquareRoots.{square_root, IsSquareRoot}
use Rattle.calc_algebra.proofs.SquareRootLaws.{square_root_is, square_from_scaled}

cases : (x y : ℕ) → (x < y) ⊎ (y ≤ x)
cases x y = grind arith

less_squares : (x y : ℕ) → x * x < y * y → x < y
less_squares x y h = by (cases x y)
  where
    by : (x < y) ⊎ (y ≤ x) → x < y
    by (inl l) = l
    by (inr l) = absurd (omega (arith, h, mul-le y y x x l l))

-- four times a product is at most the square of the sum
four_products : (x y : ℕ) → 4 * (x * y) ≤ (x + y) * (x + y)
four_products x y = by (cases x y)
  where
    ordered : (x d : ℕ) → 4 * (x * (x + d)) ≤ (x + (x + d)) * (x + (x + d))
    ordered x d = omega arith

    more : (x y d : ℕ) → y ≡ x + d → 4 * (x * y) ≤ (x + y) * (x + y)
    more x y d e = rw e (ordered x d)

    less : (x y d : ℕ) → x ≡ y + d → 4 * (x * y) ≤ (x + y) * (x + y)
    less x y d e = let h = ordered y d in rw e (omega (arith, h))

    by : (x < y) ⊎ (y ≤ x) → 4 * (x * y) ≤ (x + y) * (x + y)
    by (inl l) = more x y (y - x) (omega (arith, l))
    by (inr l) = less x y (x - y) (omega (arith, l))

-- the square root rounded down, and one more, are at most twice the root
double_root : (r : ℕ) → 1 ≤ r → r ≤ 4 * (square_root r * square_root r)
double_root r h = by (square_root r) (square_root_is r)
  where
    by : (s : ℕ) → IsSquareRoot r s → r ≤ 4 * (s * s)
    by zero i = absurd (omega (arith, h, i.above))
    by (suc s) i = let l : (suc s + 1) * (suc s + 1) ≤ (2 * suc s) * (2 * suc s) = mul-le (suc s + 1) (suc s + 1) (2 * suc s) (2 * suc s) (omega arith) (omega arith) in omega (arith, i.above, l)

next_root : (r : ℕ) → 1 ≤ r → (square_root r + 1) * (square_root r + 1) ≤ 4 * r
next_root r h = by (square_root r) (square_root_is r)
  where
    by : (s : ℕ) → IsSquareRoot r s → (s + 1) * (s + 1) ≤ 4 * r
    by zero i = omega (arith, h)
    by (suc s) i = let l : (suc s + 1) * (suc s + 1) ≤ (2 * suc s) * (2 * suc s) = mul-le (suc s + 1) (suc s + 1) (2 * suc s) (2 * suc s) (omega arith) (omega arith) in omega (arith, i.within, l)

-- what is doubted is too little
too_little : (U e x y : ℕ) → e < U → x < y → U * y ≤ U * x + e → ⊥
too_little U e x y f l h = let k : U * (x + 1) ≤ U * y = mul-le-mul_left U (omega (arith, l)) in omega (arith, f, h, k)

-- below the root: what the step of Newton's that is below it leaves
below_step : (U a Y d e : ℕ) → U * (2 * ((Y + d) * a)) ≤ U * (a * (Y + d + Y)) + e * (Y + d + Y) → U * (a * d) ≤ e * (Y + d + Y)
below_step U a Y d e h = omega (arith, h)

above_step : (U a X d e : ℕ) → U * (2 * (X + d)) ≤ U * (X + (X + d)) + 2 * (e * a) → U * d ≤ 2 * (e * a)
above_step U a X d e h = omega (arith, h)

-- the square of what is doubted
doubted_below : (U a e X : ℕ) → 0 < X → X ≤ 4 * (a * a) → U * a ≤ e * (2 * X) → U * U ≤ 16 * (e * e) * X
doubted_below U a e X p l h =
    let k : (U * a) * (U * a) ≤ (e * (2 * X)) * (e * (2 * X)) = mul-le (U * a) (U * a) (e * (2 * X)) (e * (2 * X)) h h in
    let m : (U * U) * X ≤ (U * U) * (4 * (a * a)) = mul-le-mul_left (U * U) l in
    let n : (U * U) * X ≤ (16 * (e * e) * X) * X = omega (arith, k, m) in
    le_of_mul-le-mul_right n p

doubted_above : (U a e X : ℕ) → a * a ≤ 4 * X → U ≤ 2 * (e * a) → U * U ≤ 16 * (e * e) * X
doubted_above U a e X l h =
    let k : U * U ≤ (2 * (e * a)) * (2 * (e * a)) = mul-le U U (2 * (e * a)) (2 * (e * a)) h h in
    let m : (4 * (e * e)) * (a * a) ≤ (4 * (e * e)) * (4 * X) = mul-le-mul_left (4 * (e * e)) l in
    omega (arith, k, m)

-- U times the distance of b times the root of r from a is at most e, by all bounds of the root
module _ (a b r U e : ℕ) (hb : 0 < b) (hr : 1 ≤ r) (irrational : (s : ℕ) → s * s ≡ r → ⊥) (fine : e < U) (far : 16 * (e * e) * (r * (b * b)) < U * U)
    (low : (s u : ℕ) → 1 ≤ u → s * s ≤ r * (u * u) → U * (b * s) ≤ U * (a * u) + e * u) (high : (h u : ℕ) → 1 ≤ u → r * (u * u) ≤ h * h → U * (a * u) ≤ U * (b * h) + e * u) where
  X : ℕ
  X = r * (b * b)

  unequal : r * (b * b) ≡ a * a → ⊥
  unequal q = let (t, is) = square_from_scaled r b a hb q in irrational t (sym is)

  positive : 0 < r * (b * b)
  positive = let k : 1 * (1 * 1) ≤ r * (b * b) = mul-le 1 (1 * 1) r (b * b) hr (mul-le 1 1 b b (omega (arith, hb)) (omega (arith, hb))) in omega (arith, k)

  far_below : 4 * (a * a) < r * (b * b) → ⊥
  far_below l =
      let s = square_root r in
      let k : r * (b * b) ≤ 4 * (s * s) * (b * b) = mul-le-mul_right (b * b) (double_root r hr) in
      let less : a < b * s = less_squares a (b * s) (omega (arith, l, k)) in
      let h = low s 1 (omega arith) (let i = (square_root_is r).within in omega (arith, i)) in
      too_little U e a (b * s) fine less (omega (arith, h))

  far_above : 4 * (r * (b * b)) < a * a → ⊥
  far_above l =
      let s = square_root r in
      let k : (s + 1) * (s + 1) * (b * b) ≤ 4 * r * (b * b) = mul-le-mul_right (b * b) (next_root r hr) in
      let less : b * (s + 1) < a = less_squares (b * (s + 1)) a (omega (arith, l, k)) in
      let h = high (s + 1) 1 (omega arith) (let i = (square_root_is r).above in omega (arith, i)) in
      too_little U e (b * (s + 1)) a fine less (omega (arith, h))

  just_below : (d : ℕ) → 0 < d → r * (b * b) ≡ a * a + d → r * (b * b) ≤ 4 * (a * a) → ⊥
  just_below d p q l =
      let four = four_products (r * (b * b)) (a * a) in
      let square : (2 * (r * (a * b))) * (2 * (r * (a * b))) ≤ r * ((r * (b * b) + a * a) * (r * (b * b) + a * a)) = let k = mul-le-mul_left r four in omega (arith, k) in
      let h = low (2 * (r * (a * b))) (r * (b * b) + a * a) (omega (arith, positive)) square in
      let i : U * (2 * ((r * (b * b)) * a)) ≤ U * (a * (r * (b * b) + a * a)) + e * (r * (b * b) + a * a) = omega (arith, h) in
      let j : U * (a * d) ≤ e * (a * a + d + a * a) = below_step U a (a * a) d e (rw (← q) i) in
      let m : (U * a) * 1 ≤ (U * a) * d = mul-le-mul_left (U * a) (omega (arith, p)) in
      let n : e * (a * a + d + a * a) ≤ e * (2 * (r * (b * b))) = mul-le-mul_left e (omega (arith, q)) in
      let o = doubted_below U a e (r * (b * b)) positive l (omega (arith, j, m, n)) in
      omega (arith, o, far)

  just_above : (d : ℕ) → 0 < d → a * a ≡ r * (b * b) + d → a * a ≤ 4 * (r * (b * b)) → ⊥
  just_above d p q l =
      let four = four_products (r * (b * b)) (a * a) in
      let square : r * ((2 * (a * b)) * (2 * (a * b))) ≤ (r * (b * b) + a * a) * (r * (b * b) + a * a) = omega (arith, four) in
      let some : 1 ≤ 2 * (a * b) = some_product a (omega (arith, q, p)) in
      let h = high (r * (b * b) + a * a) (2 * (a * b)) some square in
      let i : (U * (2 * (a * a))) * b ≤ (U * (r * (b * b) + a * a) + 2 * (e * a)) * b = omega (arith, h) in
      let j : U * (2 * (a * a)) ≤ U * (r * (b * b) + a * a) + 2 * (e * a) = le_of_mul-le-mul_right i hb in
      let k : U * d ≤ 2 * (e * a) = above_step U a (r * (b * b)) d e (rw (← q) j) in
      let m : U * 1 ≤ U * d = mul-le-mul_left U (omega (arith, p)) in
      let o = doubted_above U a e (r * (b * b)) l (omega (arith, k, m)) in
      omega (arith, o, far)
    where
      some_product : (a : ℕ) → 0 < a * a → 1 ≤ 2 * (a * b)
      some_product zero h = absurd (omega (arith, h))
      some_product (suc a) h = let k : 1 * 1 ≤ suc a * b = mul-le 1 1 (suc a) b (omega arith) (omega (arith, hb)) in omega (arith, k)

  pub difference_apart : ⊥
  difference_apart = by (cases (r * (b * b)) (a * a)) (cases (4 * (a * a)) (r * (b * b))) (cases (4 * (r * (b * b))) (a * a))
    where
      by : (r * (b * b) < a * a) ⊎ (a * a ≤ r * (b * b)) → (4 * (a * a) < r * (b * b)) ⊎ (r * (b * b) ≤ 4 * (a * a)) → (4 * (r * (b * b)) < a * a) ⊎ (a * a ≤ 4 * (r * (b * b))) → ⊥
      by _ (inl l) _ = far_below l
      by _ _ (inl l) = far_above l
      by (inl l) (inr m) (inr n) = just_above (a * a - r * (b * b)) (omega (arith, l)) (omega (arith, l)) n
      by (inr l) (inr m) (inr n) = equal (cases (a * a) (r * (b * b)))
        where
          equal : (a * a < r * (b * b)) ⊎ (r * (b * b) ≤ a * a) → ⊥
          equal (inl k) = just_below (r * (b * b) - a * a) (omega (arith, k)) (omega (arith, k)) m
          equal (inr k) = unequal (omega (arith, k, l))

-- the same of p - q, which may be on either side of 0
module _ (p q b r U e : ℕ) (hb : 0 < b) (hr : 1 ≤ r) (irrational : (s : ℕ) → s * s ≡ r → ⊥) (fine : e < U) (far : 16 * (e * e) * (r * (b * b)) < U * U)
    (low : (s u : ℕ) → 1 ≤ u → s * s ≤ r * (u * u) → U * (p * u) + U * (b * s) ≤ U * (q * u) + e * u)
    (high : (h u : ℕ) → 1 ≤ u → r * (u * u) ≤ h * h → U * (q * u) ≤ U * (p * u) + U * (b * h) + e * u) where
  pub apart : ⊥
  apart = by (cases p q)
    where
      by : (p < q) ⊎ (q ≤ p) → ⊥
      by (inl l) = difference_apart (q - p) b r U e hb hr irrational fine far
          (λ s u i j. less (q - p) u (b * s) (omega (arith, l)) (low s u i j)) (λ h u i j. more (q - p) u (b * h) (omega (arith, l)) (high h u i j))
        where
          less : (a u z : ℕ) → q ≡ p + a → U * (p * u) + U * z ≤ U * (q * u) + e * u → U * z ≤ U * (a * u) + e * u
          less a u z is h = let k : U * (p * u) + U * z ≤ U * ((p + a) * u) + e * u = subst (λ y. U * (p * u) + U * z ≤ U * (y * u) + e * u) is h in omega (arith, k)

          more : (a u z : ℕ) → q ≡ p + a → U * (q * u) ≤ U * (p * u) + U * z + e * u → U * (a * u) ≤ U * z + e * u
          more a u z is h = let k : U * ((p + a) * u) ≤ U * (p * u) + U * z + e * u = subst (λ y. U * (y * u) ≤ U * (p * u) + U * z + e * u) is h in omega (arith, k)
      by (inr l) =
          let h = low 1 1 (omega arith) (omega (arith, hr)) in
          let k : U * (q * 1) ≤ U * (p * 1) = mul-le-mul_left U (omega (arith, l)) in
          let m : U * 1 ≤ U * b = mul-le-mul_left U (omega (arith, hb)) in
          omega (arith, h, k, m, fine)
