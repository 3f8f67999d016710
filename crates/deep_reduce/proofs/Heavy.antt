-- How much reduced trees weigh at least, and how Numbers and powers nest.
use Rattle.deep_reduce.proofs.Shared.{◌≡◌, ◌≤◌, Bool, true, false, refl, arith, ◌<◌, ◌&&◌, max, weight, is_number, is_reduced, base_of, Tree, power, none, more, load_number, and_parts, nest, nest_of}
use Rattle.deep_reduce.proofs.Shared.{load_of_factors, are_numbers, Trees, nest_over, nest_number, heavy, numbers_nest, to_number, to_other, exponent_nest, base_reduced}
pub use Rattle.power_reduce.proofs.Weights.{factor_load}

pub heavy_base : (t : Tree) → is_reduced t ≡ true → 2 ≤ weight (base_of t)
heavy_base t h = grind (arith, heavy, base_reduced)

-- ---- Numbers

pub numbers_load : (ts : Trees) → are_numbers ts ≡ true → load_of_factors ts ≡ 0
numbers_load none h = refl
numbers_load (more t ts) h = let b = and_parts _ _ h in omega (arith, load_number t b.0, numbers_load ts b.1)

-- ---- powers

pub over_base : (b : Tree) (ts : Trees) → nest b ≤ nest_over b ts
over_base b none = omega arith
over_base b (more t ts) = omega (arith, over_base b ts)

-- the exponents nest less, or all of them are Numbers
pub over_exponents : (b : Tree) (ts : Trees) → are_numbers ts ≡ false → nest_of ts < nest_over b ts
over_exponents b none h = absurd cc
over_exponents b (more t ts) h = by (is_number t) (are_numbers ts) refl refl h (over_exponents b ts)
  where
    by : (x y : Bool) → is_number t ≡ x → are_numbers ts ≡ y → (x && y) ≡ false → (are_numbers ts ≡ false → nest_of ts < nest_over b ts)
        → max (nest t) (nest_of ts) < max (nest (power b t)) (nest_over b ts)
    by true true p q k rest = absurd cc
    by true false p q k rest = omega (arith, nest_number t p, rest q)
    by false true p q k rest = omega (arith, exponent_nest b t p, numbers_nest ts q)
    by false false p q k rest = omega (arith, exponent_nest b t p, rest q)

-- the power of a tree that stands for them
pub over_power : (b : Tree) (ts : Trees) (e : Tree) → (are_numbers ts ≡ true → is_number e ≡ true) → nest e ≤ nest_of ts → nest (power b e) ≤ nest_over b ts
over_power b ts e n l = by (is_number e) (are_numbers ts) refl refl
  where
    by : (x y : Bool) → is_number e ≡ x → are_numbers ts ≡ y → nest (power b e) ≤ nest_over b ts
    by true y p q = omega (arith, to_number b e p, over_base b ts)
    by false true p q = absurd (cc (n q))
    by false false p q = omega (arith, to_other b e p, over_base b ts, over_exponents b ts q)
