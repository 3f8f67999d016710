-- The children of a node as a list.
use Rattle.linear_solve.proofs.Shared.{◌≡◌, ◌<◌, ◌≤◌, ℕ, zero, suc, ◌+◌, List, [], ◌∷◌, length, get_or, refl, ap, arith, Tree, undef, Trees, none, more, count, nodes, nodes_of, nth, children_of}

abbrev pub listed : Trees → List Tree
listed none = []
listed (more t ts) = t ∷ listed ts

pub length-listed : (ts : Trees) → length (listed ts) ≡ count ts
length-listed none = refl
length-listed (more t ts) = ap suc (length-listed ts)

pub get_or-listed : (ts : Trees) (i : ℕ) → get_or (listed ts) i undef ≡ nth i ts
get_or-listed none i = refl
get_or-listed (more t ts) zero = refl
get_or-listed (more t ts) (suc i) = get_or-listed ts i

-- their nodes
abbrev node_sum : List Tree → ℕ
node_sum [] = 0
node_sum (t ∷ ts) = nodes t + node_sum ts

nodes-listed : (ts : Trees) → node_sum (listed ts) ≡ nodes_of ts
nodes-listed none = refl
nodes-listed (more t ts) = ap (λ n. nodes t + n) (nodes-listed ts)

-- a tree has one node more than its children
nodes_below : (t : Tree) → nodes t ≡ suc (node_sum (listed (children_of t)))
nodes_below t = grind (arith, nodes-listed)

at_most_all : (ts : List Tree) (i : ℕ) → i < length ts → nodes (get_or ts i undef) ≤ node_sum ts
at_most_all [] i l = absurd (omega arith)
at_most_all (t ∷ ts) zero l = omega arith
at_most_all (t ∷ ts) (suc i) l = let h = at_most_all ts i (omega arith) in omega (arith, h)

pub fewer_nodes : (t : Tree) (i : ℕ) → i < count (children_of t) → nodes (nth i (children_of t)) < nodes t
fewer_nodes t i l =
    omega (arith, nodes_below t, at_most_all (listed (children_of t)) i (omega (arith, length-listed (children_of t))), ap nodes (get_or-listed (children_of t) i))
