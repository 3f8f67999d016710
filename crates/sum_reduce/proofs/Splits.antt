-- What is split off a product as its coefficient: nothing, its first factor, which is a Number, or a rational and the root behind it.
use Rattle.sum_reduce.proofs.Shared.{arith, ◌≡◌, true, ◌≤◌, Fraction, is_number, is_radicand, split_product, num_one, Tree, num, mult, root, Trees, none, more, part_of, names, names_of, Within}
use Rattle.sum_reduce.proofs.Shared.{within_same, within_trans, within_right, within_eq, nest, nest_of, tree_names, tree_nest}

pub split_cases : (P : Trees → Tree → Trees → Type 0) → ((ts : Trees) → P ts num_one ts) → ((t : Tree) (ts : Trees) → is_number t ≡ true → P (more t ts) t ts)
    → ((q r : Fraction) (ts : Trees) → is_radicand r ≡ true → P (more (num q) (more (root (num r)) ts)) (mult (more (num q) (more (root (num r)) none))) ts)
    → (ts : Trees) → P ts (split_product ts).coefficient (split_product ts).factors
unfolding is_number
split_cases P n f b ts = grind arith

-- ---- the names and the nest of the part of a term

names_of_factors : (ts : Trees) → Within (names_of ts) (names_of (split_product ts).factors)
names_of_factors ts = grind (arith, split_cases, within_same, within_right)

pub names_of_part : (t : Tree) → Within (names t) (names (part_of t))
names_of_part (mult ts) = within_trans (names_of_factors ts) (within_eq (tree_names (split_product ts).factors))
names_of_part t = within_same (names t)

nest_of_factors : (ts : Trees) → nest_of (split_product ts).factors ≤ nest_of ts
nest_of_factors ts = split_cases (λ ts c us. nest_of us ≤ nest_of ts) (λ ts. omega arith) (λ t ts n. omega arith) (λ q r ts e. omega arith) ts

pub nest_of_part : (t : Tree) → nest (part_of t) ≤ nest t
nest_of_part t = grind (arith, nest_of_factors, tree_nest)
