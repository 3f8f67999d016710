-- Trees, counted one after another.
use Rattle.tree_handles.proofs.Shared.{◌≡◌, ℕ, ◌+◌, ◌<◌, ◌≤◌, List, [], ◌∷◌, ap, arith, length, Node, used, first_of, since, IsBoundary, State, step, length_le_used}
use Rattle.tree_handles.proofs.{Shared.{since_end, arity, forest_of, Stands, forest, skip}, ChildPlaces.forest_of-skip, Forests.arity-rest_trees, Releases.arity_le}

-- a tree begins at a node
some_tree : (ns ms : List Node) (n : Node) → ns ≡ n ∷ ms → 0 < arity (forest_of ns)
unfolding forest_of
some_tree ns ms n e = omega (arith, ap (λ (x : List Node). arity (forest_of x)) e)

-- one tree fewer begins behind it
pub one_fewer : (at next : ℕ) (ns : List Node) → IsBoundary at ns → at < used ns → since next ns ≡ skip 1 (since at ns) → arity (forest_of (since next ns)) + 1 ≡ arity (forest_of (since at ns))
one_fewer at next ns b lt e =
    omega (arith, some_tree (since at ns) _ (first_of (since at ns)) (step at ns b lt).rest, ap (λ (x : List Node). arity (forest_of x)) e, ap arity (forest_of-skip 1 (since at ns)), arity-rest_trees 1 (forest_of (since at ns)))

-- none is left at the end
no_tree : (ns : List Node) → ns ≡ [] → arity (forest_of ns) ≡ 0
unfolding forest_of
no_tree ns e = ap (λ (x : List Node). arity (forest_of x)) e

pub none_left : (at : ℕ) (ns : List Node) → used ns ≤ at → arity (forest_of (since at ns)) ≡ 0
none_left at ns h = no_tree (since at ns) (since_end at ns h)

-- a pool has few trees
pub few_trees : (s : State) → Stands s → arity (forest s) ≤ 65535
few_trees s st = omega (arith, arity_le (forest s), ap length st.flat, length_le_used s.nodes, st.pool.fits, st.pool.size.most)
