-- The answers of children count at most the nodes of their parent.
use Rattle.tree_room.proofs.Shared.{ℕ, ◌+◌, ◌≤◌, arith, counted, Tree, num, symbol, undef, add, mult, power, root, neg, sub, div, Trees, none, more, count, nodes, nodes_of, CountWithin}
use Rattle.tree_room.proofs.{Shared.{counted_in_all, product_count}, Counts.{numbers_and_others}}
use Rattle.calc_terms.proofs.SmallLaws.{one_node as some_node}

pub all_within : (rs ts : Trees) → CountWithin rs ts → counted_in_all rs ≤ nodes_of ts
all_within none none h = omega arith
all_within (more r rs) (more t ts) (h, hs) = let x : counted_in_all rs ≤ nodes_of ts = all_within rs ts hs in omega arith
all_within _ _ h = absurd h

some_nodes : (ts : Trees) → 1 ≤ count ts → 1 ≤ nodes_of ts
some_nodes none h = omega arith
some_nodes (more t ts) h = omega (arith, some_node t)

pub sum_within : (rs ts : Trees) → CountWithin rs ts → counted (add rs) ≤ nodes (add ts)
sum_within rs ts h = omega (arith, numbers_and_others rs, all_within rs ts h)

pub product_within : (rs ts : Trees) → CountWithin rs ts → 1 ≤ count ts → 1 + counted (mult rs) ≤ nodes (mult ts)
product_within rs ts h k = omega (arith, numbers_and_others rs, all_within rs ts h, some_nodes ts k)

pub handed_product_within : (rs ts : Trees) → CountWithin rs ts → product_count rs ≤ nodes (mult ts) + 1
handed_product_within rs ts h = omega (arith, numbers_and_others rs, all_within rs ts h)

pub power_within : (c n : ℕ) (e : Tree) → c ≤ n → 2 + c ≤ n + nodes e + 1
power_within c n e h = omega (arith, some_node e)
