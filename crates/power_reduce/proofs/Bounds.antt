-- Loads and weights of powers.
use Rattle.std.proofs.Common.{◌≡◌, ℕ, ◌+◌, ◌≤◌, Bool, true, false, ◌||◌, if◌then◌else◌, refl, arith, add-le-add}
use Rattle.power_reduce.proofs.Shared.{load, weight, weight_of_factors, load_of_factor, load_of_factors, has_coefficient, is_number, IsNumber, number_test, number_words, is_opaque_exponent, base_of}
use Rattle.power_reduce.proofs.Shared.{Tree, num, symbol, undef, add, mult, power, root, neg, sub, div, Trees, none, more, is_undef}

-- a test that leaves nothing or a number
at_most : (t : Bool) (x n : ℕ) → x ≤ n → (if t then 0 else x) ≤ n
at_most t x n h = grind arith

base_weight : (t : Tree) → weight (base_of t) ≤ weight t
base_weight (power b e) = grind arith
base_weight _ = omega arith

-- a product that is a Number has no load
number_factors : (ts : Trees) → IsNumber (mult ts) → load_of_factors ts ≡ 0
number_factors ts h = grind (arith, number_test)

pub number_load : (t : Tree) → is_number t ≡ true → load_of_factor t ≡ 0
number_load (mult ts) h = number_factors ts (number_words (mult ts) h)
number_load _ h = rw h refl

factor_part : (t : Tree) → load_of_factor t ≤ weight t → load_of_factor t ≤ (if is_number t then 0 else weight t)
factor_part t h = grind (arith, number_load)

product_part : (ts : Trees) → load_of_factors ts ≤ weight_of_factors ts → load_of_factors ts ≤ weight (mult ts)
product_part ts h = by (is_number (mult ts)) refl
  where
    by : (b : Bool) → is_number (mult ts) ≡ b → load_of_factors ts ≤ (if b then 2 else 1 + (if has_coefficient ts then 2 else 0) + weight_of_factors ts)
    by true e = omega (arith, number_factors ts (number_words (mult ts) e))
    by false e = omega arith

mutual
  factor_weight : (t : Tree) → load_of_factor t ≤ weight t
  factor_weight (mult ts) = product_part ts (factors_weight ts)
  factor_weight (num q) = at_most (is_number (num q)) _ _ (base_weight (num q))
  factor_weight (symbol x) = at_most (is_number (symbol x)) _ _ (base_weight (symbol x))
  factor_weight undef = at_most (is_number undef) _ _ (base_weight undef)
  factor_weight (add ts) = at_most (is_number (add ts)) _ _ (base_weight (add ts))
  factor_weight (power b e) = at_most (is_number (power b e)) _ _ (base_weight (power b e))
  factor_weight (root a) = at_most (is_number (root a)) _ _ (base_weight (root a))
  factor_weight (neg a) = at_most (is_number (neg a)) _ _ (base_weight (neg a))
  factor_weight (sub a c) = at_most (is_number (sub a c)) _ _ (base_weight (sub a c))
  factor_weight (div a c) = at_most (is_number (div a c)) _ _ (base_weight (div a c))

  factors_weight : (ts : Trees) → load_of_factors ts ≤ weight_of_factors ts
  factors_weight none = omega arith
  factors_weight (more t ts) = let h : load_of_factor t ≤ (if is_number t then 0 else weight t) = factor_part t (factor_weight t) in let k = factors_weight ts in add-le-add h k

-- the load of a tree is at most its weight
pub load_at_most_weight : (t : Tree) → load t ≤ weight t
load_at_most_weight t = at_most (is_number t || is_undef t) _ _ (factor_weight t)

-- that of a transparent power is at most its base's
pub transparent_load : (b e : Tree) → is_opaque_exponent e ≡ false → load (power b e) ≤ weight b
transparent_load b e h = at_most (is_number (power b e) || false) _ _ (at_most (is_number (power b e)) _ _ (rw h (omega arith)))

-- and that of any power one more at most
pub opaque_load : (b e : Tree) → load (power b e) ≤ 1 + weight b
opaque_load b e = let h = load_at_most_weight (power b e) in omega (arith, h)
