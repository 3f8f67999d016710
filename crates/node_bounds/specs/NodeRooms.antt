-- How much the answer for a node over reduced children counts, and how many bytes it needs at most.
use Rattle.std.specs.Prelude.{ℕ, ◌+◌, ◌≤◌, List}
use Rattle.calc_room.specs.{Counts.{counted}, Spans.{SpansTree}}
use Rattle.calc_terms.specs.Trees.{Tree, add, mult, power, root, neg, sub, div, Trees, none, count}
use Rattle.node_bounds.specs.Rooms.{IsCalmAtZero, SpansRootOf, power_count}
use Rattle.tree_room.specs.{Handed.{sum_count, product_count}, Needs.{product_room}}

-- how much the answer counts at most
abbrev pub node_count : Tree → ℕ
node_count (power b e) = power_count b e
node_count (neg a) = counted a
node_count (sub a b) = 1 + counted a + counted b
node_count (div a b) = 1 + counted a + counted b
node_count t = counted t

-- what spans the node, and of a root over a rational only where that is above 0
abbrev pub SpansNode : List ℕ → Tree → Type 0
SpansNode gs (root a) = SpansRootOf gs a
SpansNode gs t = SpansTree gs t

-- the answer for a calm node counts c at most, is calm, and is spanned by what spans the node
pub record KeepsNodeRoom (c : ℕ) (t u : Tree) : Type 0 where
  pub counts : (ns : List (List ℕ)) → IsCalmAtZero ns t → counted u ≤ c
  pub calm : (ns : List (List ℕ)) → IsCalmAtZero ns t → IsCalmAtZero ns u
  pub spanned : (gs : List ℕ) (ns : List (List ℕ)) → IsCalmAtZero ns t → SpansNode gs t → SpansTree gs u

-- a tree of n nodes has room for such a node as its root
abbrev pub HasNodesFor : ℕ → Tree → Type 0
HasNodesFor n (add ts) = sum_count ts ≤ n
HasNodesFor n (mult ts) = (product_count ts ≤ n + 1) × (1 ≤ n) × (1 ≤ count ts → 2 ≤ n)
HasNodesFor n (power b e) = 2 + counted b ≤ n
HasNodesFor n (root a) = 1 + counted a ≤ n
HasNodesFor n (neg a) = 1 + counted a ≤ n
HasNodesFor n (sub a b) = 1 + counted a + counted b ≤ n
HasNodesFor n (div a b) = 1 + counted a + counted b ≤ n
HasNodesFor n t = 1 ≤ n

-- the product of these factors is a number where there are none
abbrev pub factors_room : Trees → ℕ → ℕ
factors_room none m = 40
factors_room ts m = product_room (product_count ts) m
