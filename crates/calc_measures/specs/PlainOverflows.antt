-- Where among the nodes of a tree an operation on rationals first overflows.
use Rattle.std.specs.Prelude.{ℕ, ◌+◌, Bool, true, false, if◌then◌else◌}
use Rattle.calc_measures.specs.PlainValues.{PlainValue, overflow, plain_of}
use Rattle.calc_terms.specs.Trees.{Tree, add, mult, power, root, neg, sub, div, Trees, none, more, nodes}

abbrev pub is_overflow : PlainValue → Bool
is_overflow (overflow op a b) = true
is_overflow _ = false

-- the nodes of a child up to the overflow in it, and where it has none all of them and those behind
abbrev pub with_child : Tree → ℕ → ℕ → ℕ
with_child t within behind = if is_overflow (plain_of t) then within else nodes t + behind

-- How many nodes stand up to the one whose operation overflows, and with it, children before their parent and from
-- left to right; all nodes where none of the children overflows.
abbrev mutual
  pub nodes_to_overflow : Tree → ℕ
  nodes_to_overflow (add ts) = nodes_among ts
  nodes_to_overflow (mult ts) = nodes_among ts
  nodes_to_overflow (power b e) = with_child b (nodes_to_overflow b) (with_child e (nodes_to_overflow e) 1)
  nodes_to_overflow (root a) = with_child a (nodes_to_overflow a) 1
  nodes_to_overflow (neg a) = with_child a (nodes_to_overflow a) 1
  nodes_to_overflow (sub a b) = with_child a (nodes_to_overflow a) (with_child b (nodes_to_overflow b) 1)
  nodes_to_overflow (div a b) = with_child a (nodes_to_overflow a) (with_child b (nodes_to_overflow b) 1)
  nodes_to_overflow _ = 1

  -- of a node over these children
  pub nodes_among : Trees → ℕ
  nodes_among none = 1
  nodes_among (more t ts) = with_child t (nodes_to_overflow t) (nodes_among ts)
