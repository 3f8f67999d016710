-- How the nodes of a tree find room where it is built from its leaves up.
use Rattle.std.specs.Prelude.{ℕ, ◌-◌, List, [], ◌∷◌, ◌++◌, nat_le, if◌then◌else◌, Result, Ok, Err}
use Rattle.calc_terms.specs.Trees.{Tree, num, symbol, undef, add, mult, power, root, neg, sub, div, Trees, none, more, root_size}
use Rattle.node_pool.specs.declared.full.Full.{Full}

-- the bytes of each node in postfix order: the children from left to right, then their parent
abbrev mutual
  pub node_sizes : Tree → List ℕ
  node_sizes (num q) = root_size (num q) ∷ []
  node_sizes (symbol x) = root_size (symbol x) ∷ []
  node_sizes undef = root_size undef ∷ []
  node_sizes (add ts) = nodes_sizes ts ++ root_size (add ts) ∷ []
  node_sizes (mult ts) = nodes_sizes ts ++ root_size (mult ts) ∷ []
  node_sizes (power b e) = (node_sizes b ++ node_sizes e) ++ root_size (power b e) ∷ []
  node_sizes (root a) = node_sizes a ++ root_size (root a) ∷ []
  node_sizes (neg a) = node_sizes a ++ root_size (neg a) ∷ []
  node_sizes (sub a b) = (node_sizes a ++ node_sizes b) ++ root_size (sub a b) ∷ []
  node_sizes (div a b) = (node_sizes a ++ node_sizes b) ++ root_size (div a b) ∷ []

  -- one tree behind the other
  pub nodes_sizes : Trees → List ℕ
  nodes_sizes none = []
  nodes_sizes (more t ts) = node_sizes t ++ nodes_sizes ts

-- Bytes are taken one after the other from the free ones: what is left then, or, for the first that needs more than is left, what it needs and what is left.
abbrev pub taking : ℕ → List ℕ → Result ℕ Full
taking free [] = Ok free
taking free (n ∷ ns) = if nat_le n free then taking (free - n) ns else Err (record { needed = n; free = free })

-- a tree is built in the free bytes: children are placed before their parent
abbrev pub building : ℕ → Tree → Result ℕ Full
building free t = taking free (node_sizes t)
