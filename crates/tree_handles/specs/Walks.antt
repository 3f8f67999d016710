-- Walks over nodes in prefix order.
use Rattle.std.specs.Prelude.{ℕ, zero, suc, ◌+◌, ◌≡◌, ◌≤◌, ◌<◌, List, [], ◌∷◌, ◌++◌, length, drop}
use Rattle.calc_terms.specs.Node.{Node}
use Rattle.node_pool.specs.{Nodes.{used, place_of}, Places.{since, until, IsBoundary}, State.{State}}
use Rattle.tree_handles.specs.{Forest.{Forest, join, arity, flatten, first_trees, rest_trees, forest_of}, Inside.{kids_of, released}, Standing.{forest}}

-- what is behind a number of trees
abbrev pub skip : ℕ → List Node → List Node
skip zero ns = ns
skip (suc k) [] = []
skip (suc k) (n ∷ ns) = skip (k + n.children) ns

-- where a node's child begins, counted from 0, or the place behind the last one
pub record IsChildPlace (at parent place : ℕ) (s : State) : Type 0 where
  pub within : at ≤ arity (kids_of parent (forest s))
  pub boundary : IsBoundary place s.nodes
  pub rest : since place s.nodes ≡ skip at (drop 1 (since (place_of parent s.nodes) s.nodes))

-- so many whole trees stand first
pub record BeginsTrees (n : ℕ) (ns : List Node) : Type 0 where
  pub trees : Forest
  pub behind : List Node
  pub nodes : ns ≡ flatten trees ++ behind
  pub many : arity trees ≡ n

-- the first trees released, and the others as they are
abbrev pub release_first : ℕ → Forest → Forest
release_first n f = join (released (first_trees n f)) (rest_trees n f)

-- the nodes, with a number of trees released that begin at a place
abbrev pub released_at : ℕ → ℕ → List Node → List Node
released_at at owed ns = until at ns ++ flatten (release_first owed (forest_of (since at ns)))

-- a number of trees that begin at a place are still to be released, which leaves the nodes at the end
pub record IsOwed (ns : List Node) (at owed : ℕ) (end : List Node) : Type 0 where
  pub before : List Node
  pub trees : Forest
  pub whole : ns ≡ before ++ flatten trees
  pub place : at ≡ used before
  pub few : owed ≤ arity trees
  pub rest : before ++ flatten (release_first owed trees) ≡ end

-- how many nodes they have
abbrev pub owed_nodes : List Node → ℕ → ℕ → ℕ
owed_nodes ns at owed = length (flatten (first_trees owed (forest_of (since at ns))))

-- a step towards the end, with fewer nodes in what is still to be released
pub record IsNearer (ns ms : List Node) (at owed next still : ℕ) (end : List Node) : Type 0 where
  pub now : IsOwed ms next still end
  pub less : owed_nodes ms next still < owed_nodes ns at owed
