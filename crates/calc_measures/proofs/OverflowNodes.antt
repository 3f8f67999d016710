-- The nodes up to an overflow are some of a tree's nodes.
use Rattle.calc_measures.proofs.Shared.{ℕ, ◌+◌, ◌≤◌, Bool, true, false, if◌then◌else◌, arith, is_overflow, with_child, nodes_to_overflow, nodes_among, plain_of, Tree, num, symbol}
use Rattle.calc_measures.proofs.Shared.{undef, add, mult, power, root, neg, sub, div, Trees, none, more, nodes, nodes_of}

child_some : (t : Tree) (within behind : ℕ) → 1 ≤ within → 1 ≤ behind → 1 ≤ with_child t within behind
child_some t within behind w b = grind arith

child_most : (t : Tree) (within behind most : ℕ) → within ≤ nodes t → behind ≤ most → with_child t within behind ≤ nodes t + most
child_most t within behind most w b = grind arith

mutual
  pub some_nodes : (t : Tree) → 1 ≤ nodes_to_overflow t
  some_nodes (num q) = omega arith
  some_nodes (symbol x) = omega arith
  some_nodes undef = omega arith
  some_nodes (add ts) = some_among ts
  some_nodes (mult ts) = some_among ts
  some_nodes (power b e) = child_some b (nodes_to_overflow b) _ (some_nodes b) (child_some e (nodes_to_overflow e) 1 (some_nodes e) (omega arith))
  some_nodes (root a) = child_some a (nodes_to_overflow a) 1 (some_nodes a) (omega arith)
  some_nodes (neg a) = child_some a (nodes_to_overflow a) 1 (some_nodes a) (omega arith)
  some_nodes (sub a b) = child_some a (nodes_to_overflow a) _ (some_nodes a) (child_some b (nodes_to_overflow b) 1 (some_nodes b) (omega arith))
  some_nodes (div a b) = child_some a (nodes_to_overflow a) _ (some_nodes a) (child_some b (nodes_to_overflow b) 1 (some_nodes b) (omega arith))

  some_among : (ts : Trees) → 1 ≤ nodes_among ts
  some_among none = omega arith
  some_among (more t ts) = child_some t (nodes_to_overflow t) (nodes_among ts) (some_nodes t) (some_among ts)

one_child : (a : Tree) → nodes_to_overflow a ≤ nodes a → with_child a (nodes_to_overflow a) 1 ≤ nodes a + 1
one_child a h = child_most a (nodes_to_overflow a) 1 1 h (omega arith)

two_children : (a b : Tree) → nodes_to_overflow a ≤ nodes a → nodes_to_overflow b ≤ nodes b → with_child a (nodes_to_overflow a) (with_child b (nodes_to_overflow b) 1) ≤ nodes a + (nodes b + 1)
two_children a b h k = child_most a (nodes_to_overflow a) (with_child b (nodes_to_overflow b) 1) (nodes b + 1) h (one_child b k)

mutual
  pub at_most_all_nodes : (t : Tree) → nodes_to_overflow t ≤ nodes t
  at_most_all_nodes (num q) = omega arith
  at_most_all_nodes (symbol x) = omega arith
  at_most_all_nodes undef = omega arith
  at_most_all_nodes (add ts) = omega (arith, at_most_among ts)
  at_most_all_nodes (mult ts) = omega (arith, at_most_among ts)
  at_most_all_nodes (power b e) = omega (arith, two_children b e (at_most_all_nodes b) (at_most_all_nodes e))
  at_most_all_nodes (root a) = omega (arith, one_child a (at_most_all_nodes a))
  at_most_all_nodes (neg a) = omega (arith, one_child a (at_most_all_nodes a))
  at_most_all_nodes (sub a b) = omega (arith, two_children a b (at_most_all_nodes a) (at_most_all_nodes b))
  at_most_all_nodes (div a b) = omega (arith, two_children a b (at_most_all_nodes a) (at_most_all_nodes b))

  at_most_among : (ts : Trees) → nodes_among ts ≤ nodes_of ts + 1
  at_most_among none = omega arith
  at_most_among (more t ts) = omega (arith, child_most t (nodes_to_overflow t) (nodes_among ts) (nodes_of ts + 1) (at_most_all_nodes t) (at_most_among ts))
