-- Walks that measure a tree.
use Rattle.tree_handles.proofs.Shared.{◌≡◌, ℕ, ◌≤◌, List, ◌∷◌, ◌++◌, length, ap, ◌∙◌, arith, true, Node, place_of, since, State, length_le_used, Label}
use Rattle.tree_handles.proofs.{Shared.{Forest, empty, tree, arity, node_of, flatten, nodes_in, holds, tree_at, kids_of, Stands, forest}, Forests.nodes-flatten, Parts.{at, found_behind, live_at}}

-- the nodes from a tree's place on
pub record IsBefore (i at : ℕ) (s : State) : Type 0 where
  pub label : Label
  pub below : Forest
  pub behind : List Node
  pub tree-is : tree_at i (forest s) ≡ tree label below empty
  pub nodes : since at s.nodes ≡ node_of label below ∷ (flatten below ++ behind)

pub before : (i at : ℕ) (s : State) → Stands s → holds i (forest s) ≡ true → at ≡ place_of i s.nodes → IsBefore i at s
before i at s st h e =
    let p = live_at i s h in
    let q = found_behind i _ p.before _ s.nodes p.first p.id-is (st.flat ∙ p.flat) in
    record { label = p.label; below = kids_of i (forest s); behind = p.after; tree-is = p.tree-is; nodes = ap (λ (j : ℕ). since j s.nodes) e ∙ q.here }

nodes_tree_at : (i : ℕ) (f : Forest) → nodes_in (tree_at i f) ≤ nodes_in f
nodes_tree_at i empty = omega arith
nodes_tree_at i (tree l k r) = grind (arith, nodes_tree_at i k, nodes_tree_at i r)

-- a tree has no more nodes than the pool
pub few_in : (i : ℕ) (s : State) → Stands s → nodes_in (tree_at i (forest s)) ≤ 65535
few_in i s st = omega (arith, nodes_tree_at i (forest s), nodes-flatten (forest s), ap length st.flat, length_le_used s.nodes, st.pool.fits, st.pool.size.most)

-- it is one tree
pub one_at : (i : ℕ) (f : Forest) → holds i f ≡ true → arity (tree_at i f) ≡ 1
one_at i f h = ap arity (at i f h).tree-is
