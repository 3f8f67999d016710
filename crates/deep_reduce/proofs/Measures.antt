-- What falls from call to call.
use Rattle.deep_reduce.proofs.Shared.{◌≡◌, ℕ, ◌+◌, ◌-◌, ◌*◌, ◌≤◌, ◌<◌, true, arith, nest, nest_of, weight, load_of_factors, Tree, Trees, nodes, is_mult, nest_over, nest_of_joint, nest_of_rewritten}
use Rattle.deep_reduce.proofs.Shared.{weight_of_bases, weight_below, State, base_in, tree_of, IsHanded, children_of, nth, Stands, forest, tree_of_root, nodes-plain, root_arity, numbers_nest}
use Rattle.deep_reduce.proofs.{Shared.{loads_few, few_in}, Heavy.{over_exponents, numbers_load}}

-- ---- ranks

-- the second stays below 2 ^ 20
abbrev pub rank : ℕ → ℕ → ℕ
rank n w = n * 1048576 + w

-- below what the function's own measure is
pub below_measure : {a b t : ℕ} → b ≡ t → a < b → a < t
below_measure e h = omega (arith, e, h)

pub rank_second : (m n v w : ℕ) → m ≤ n → v < w → rank m v < rank n w
rank_second m n v w h k = omega arith

-- ---- measures

-- Nest first, and then the load of a product, the weight of a power's base, and what is above these
abbrev pub of_product : Tree → ℕ
of_product t = rank (nest_of (children_of t)) (3 * load_of_factors (children_of t))

abbrev pub of_pairs : Tree → ℕ
of_pairs t = rank (nest_of (children_of t)) (3 * load_of_factors (children_of t) - 1)

abbrev pub of_two : Tree → ℕ
of_two t = rank (nest_of (children_of t)) (3 * load_of_factors (children_of t) - 2)

abbrev pub of_power : Tree → ℕ
of_power t = rank (nest t) (3 * weight (base_in t))

abbrev pub of_joint : ℕ → Tree → ℕ
of_joint at t = rank (nest_of_joint (nth at (children_of t))) (3 * weight (base_in (nth at (children_of t))) + 1)

abbrev pub of_powers : Tree → ℕ
of_powers t = rank (nest_of (children_of t)) (3 * weight_of_bases (children_of t) + 1)

abbrev pub of_exponent : Tree → ℕ
of_exponent t = rank (nest_of_rewritten t) (3 * weight_below t + 1)

abbrev pub of_rewritten : Tree → ℕ
of_rewritten t = rank (nest_of_rewritten t) (3 * weight_below t + 2)

-- a tree in a pool has few nodes
pub few_nodes : (i : ℕ) (s : State) → Stands s → IsHanded i (forest s) → nodes (tree_of i s) ≤ 65535
few_nodes i s h k = grind (arith, nodes-plain, root_arity, few_in, tree_of_root)

few_loads : (t : Tree) → is_mult t ≡ true → nodes t ≤ 65535 → 3 * load_of_factors (children_of t) < 1048576
few_loads t m h = grind (arith, loads_few)

pub few_factors : (i : ℕ) (s : State) → Stands s → IsHanded i (forest s) → is_mult (tree_of i s) ≡ true → 3 * load_of_factors (children_of (tree_of i s)) < 1048576
few_factors i s st h m = few_loads (tree_of i s) m (few_nodes i s st h)

-- the product of the exponents falls
pub exponents_fall : (b : Tree) (ts : Trees) (w : ℕ) → 3 * load_of_factors ts < 1048576 → rank (nest_of ts) (3 * load_of_factors ts) < rank (nest_over b ts) (3 * w + 1)
exponents_fall b ts w h = grind (arith, rank_second, numbers_nest, numbers_load, over_exponents)
