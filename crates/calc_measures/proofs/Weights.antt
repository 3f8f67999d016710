-- How much trees weigh, at least and by their nodes.
use Rattle.calc_measures.proofs.Shared.{ℕ, ◌+◌, ◌*◌, ◌≤◌, Bool, arith, suc, if◌then◌else◌, ◌≡◌, inl, inr, true, false, refl, ◌<◌, max, and_parts, reduced_words, is_number, are_numbers}
use Rattle.calc_measures.proofs.Shared.{is_opaque_exponent, base_of, is_reduced, weight, load_of_factors, weight_of_factors, load_of_factor, has_coefficient, nest, nest_of, Tree, mult, Trees, nodes}
use Rattle.calc_measures.proofs.{Shared.{power, root, none, more, nodes_of}, Nests.{nest_number}}

product_cases : (x y : Bool) (w n : ℕ) → w ≤ 3 * n → (if x then 2 else 1 + (if y then 2 else 0) + w) ≤ 3 * suc n
product_cases x y w n h = grind arith

root_cases : (x : Bool) (w n : ℕ) → w ≤ 3 * n → (if x then 2 else suc w) ≤ 3 * suc n
root_cases x w n h = grind arith

factor_cases : (x : Bool) (w v n m : ℕ) → w ≤ 3 * n → v ≤ 3 * m → (if x then 0 else w) + v ≤ 3 * (n + m)
factor_cases x w v n m h k = grind arith

mutual
  pub weight_few : (t : Tree) → weight t ≤ 3 * nodes t
  weight_few (mult ts) = product_cases (is_number (mult ts)) (has_coefficient ts) (weight_of_factors ts) (nodes_of ts) (weights_few ts)
  weight_few (power b e) = omega (arith, weight_few b)
  weight_few (root a) = root_cases (is_number (root a)) (weight a) (nodes a) (weight_few a)
  weight_few t = omega arith

  pub weights_few : (ts : Trees) → weight_of_factors ts ≤ 3 * nodes_of ts
  weights_few none = omega arith
  weights_few (more t ts) = factor_cases (is_number t) (weight t) (weight_of_factors ts) (nodes t) (nodes_of ts) (weight_few t) (weights_few ts)

one_cases : (x : Bool) (w n : ℕ) → w ≤ 3 * n → (if x then 0 else w) ≤ 3 * n
one_cases x w n h = grind arith

power_cases : (x : Bool) (b e : Tree) → weight (if x then power b e else b) ≤ suc (weight b)
power_cases x b e = grind arith

mutual
  pub load_few : (t : Tree) → load_of_factor t ≤ 3 * nodes t
  load_few (mult ts) = omega (arith, loads_few ts)
  load_few (power b e) = one_cases (is_number (power b e)) (weight (base_of (power b e))) (nodes (power b e)) (omega (arith, power_cases (is_opaque_exponent e) b e, weight_few b))
  load_few (root a) = one_cases (is_number (root a)) (weight (root a)) (nodes (root a)) (weight_few (root a))
  load_few t = one_cases (is_number t) 2 (nodes t) (omega arith)

  pub loads_few : (ts : Trees) → load_of_factors ts ≤ 3 * nodes_of ts
  loads_few none = omega arith
  loads_few (more t ts) = omega (arith, load_few t, loads_few ts)

pub some_weight : (t : Tree) → 1 ≤ weight t
some_weight t = grind arith

heavy_root : (x : Bool) (a : Tree) → 2 ≤ (if x then 2 else suc (weight a))
heavy_root x a = grind (arith, some_weight)

-- with one factor at least
heavy_product : (x y : Bool) (t : Tree) (w : ℕ) → 2 ≤ (if x then 2 else 1 + (if y then 2 else 0) + ((if y then 0 else weight t) + w))
heavy_product x y t w = grind (arith, some_weight)

no_empty_product : is_reduced (mult none) ≡ true → ⊥
no_empty_product h = elim (reduced_words (mult none) h) [ inl e ↦ absurd cc | inr a ↦ elim a.0 [ inl n ↦ absurd n | inr f ↦ absurd f.two ] ]

pub heavy : (t : Tree) → is_reduced t ≡ true → 2 ≤ weight t
heavy t h = grind (arith, heavy_root, no_empty_product, heavy_product, some_weight)

pub numbers_nest : (ts : Trees) → are_numbers ts ≡ true → nest_of ts ≡ 0
numbers_nest none h = refl
numbers_nest (more t ts) h = let b = and_parts _ _ h in omega (arith, nest_number t b.0, numbers_nest ts b.1)

pub to_number : (b e : Tree) → is_number e ≡ true → nest (power b e) ≡ nest b
to_number b e h = rw h refl

pub to_other : (b e : Tree) → is_number e ≡ false → nest (power b e) ≡ max (nest b) (suc (nest e))
to_other b e h = rw h refl

pub base_nest : (b e : Tree) → nest b ≤ nest (power b e)
base_nest b e = grind arith

-- an exponent's nest is below that of the power, or it is a Number's
pub exponent_nest : (b e : Tree) → is_number e ≡ false → nest e < nest (power b e)
exponent_nest b e h = omega (arith, to_other b e h)
