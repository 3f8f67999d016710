-- Forests of labelled trees, and their nodes in prefix order.
use Rattle.std.specs.Prelude.{ℕ, zero, suc, ◌+◌, ◌-◌, max, List, [], ◌∷◌, ◌++◌}
use Rattle.calc_terms.specs.declared.kind.Kind.TheVariants as kind
use Rattle.calc_terms.specs.{Payload.{Payload, bare, size_of_payload}, Node.{Node}}

pub record Label : Type 0 where
  pub id : ℕ
  pub count : ℕ
  pub payload : Payload

-- no tree, or a tree by its label and its children, before the other trees
pub data Forest : Type 0 where
  empty : Forest
  tree : Label → Forest → Forest → Forest

-- the trees of one forest, and then those of another
abbrev pub join : Forest → Forest → Forest
join empty g = g
join (tree l k r) g = tree l k (join r g)

-- how many trees
abbrev pub arity : Forest → ℕ
arity empty = 0
arity (tree l k r) = suc (arity r)

-- a node, with its number of children
abbrev pub node_of : Label → Forest → Node
node_of l k = record { id = l.id; count = l.count; children = arity k; payload = l.payload }

-- the nodes in prefix order
abbrev pub flatten : Forest → List Node
flatten empty = []
flatten (tree l k r) = node_of l k ∷ (flatten k ++ flatten r)

-- the first trees
abbrev pub first_trees : ℕ → Forest → Forest
first_trees zero f = empty
first_trees (suc n) empty = empty
first_trees (suc n) (tree l k r) = tree l k (first_trees n r)

-- the trees behind the first ones
abbrev pub rest_trees : ℕ → Forest → Forest
rest_trees zero f = f
rest_trees (suc n) empty = empty
rest_trees (suc n) (tree l k r) = rest_trees n r

-- the trees before the last ones, and these
abbrev pub before_last : ℕ → Forest → Forest
before_last n f = first_trees (arity f - n) f

abbrev pub last_trees : ℕ → Forest → Forest
last_trees n f = rest_trees (arity f - n) f

abbrev pub label_of : Node → Label
label_of n = record { id = n.id; count = n.count; payload = n.payload }

-- the forest whose nodes these are, where there is one: each node takes as many trees behind it as it has children
unfoldable pub forest_of : List Node → Forest
forest_of [] = empty
forest_of (n ∷ ns) = tree (label_of n) (first_trees n.children (forest_of ns)) (rest_trees n.children (forest_of ns))

-- one tree, held once, by its identifier, its payload and its children
abbrev pub one_tree : ℕ → Payload → Forest → Forest
one_tree i x k = tree (record { id = i; count = 1; payload = x }) k empty

-- ---- the first tree

-- its children
abbrev pub kids : Forest → Forest
kids empty = empty
kids (tree l k r) = k

-- its root's identifier, count and payload
abbrev pub root_id : Forest → ℕ
root_id empty = 0
root_id (tree l k r) = l.id

abbrev pub root_count : Forest → ℕ
root_count empty = 0
root_count (tree l k r) = l.count

abbrev pub root_payload : Forest → Payload
root_payload empty = bare kind.Undef
root_payload (tree l k r) = l.payload

-- it with other children
abbrev pub with_root_kids : Forest → Forest → Forest
with_root_kids new empty = empty
with_root_kids new (tree l k r) = tree l new r

-- ---- the tree at a place among the trees, counted from 0

abbrev pub tree_nth : ℕ → Forest → Forest
tree_nth n f = first_trees 1 (rest_trees n f)

-- the other trees
abbrev pub without_nth : ℕ → Forest → Forest
without_nth n f = join (first_trees n f) (rest_trees 1 (rest_trees n f))

-- with more trees before it
abbrev pub with_nth : ℕ → Forest → Forest → Forest
with_nth n c f = join (first_trees n f) (join c (rest_trees n f))

-- with other trees in its stead
abbrev pub set_nth : ℕ → Forest → Forest → Forest
set_nth n c f = join (first_trees n f) (join c (rest_trees 1 (rest_trees n f)))

-- the trees at two places, each where the other was
abbrev pub swapped_nth : ℕ → ℕ → Forest → Forest
swapped_nth i j f = set_nth i (tree_nth j f) (set_nth j (tree_nth i f) f)

-- its children in its stead
abbrev pub merged_nth : ℕ → Forest → Forest
merged_nth n f = set_nth n (kids (tree_nth n f)) f

-- ---- measures

-- the bytes of the nodes
abbrev pub bytes_in : Forest → ℕ
bytes_in empty = 0
bytes_in (tree l k r) = size_of_payload l.payload + (bytes_in k + bytes_in r)

-- how many nodes
abbrev pub nodes_in : Forest → ℕ
nodes_in empty = 0
nodes_in (tree l k r) = suc (nodes_in k + nodes_in r)

-- the depth of the deepest tree, a tree of one node having depth 1
abbrev pub depth_in : Forest → ℕ
depth_in empty = 0
depth_in (tree l k r) = max (suc (depth_in k)) (depth_in r)

-- a fact of each node, by its label and its number of children
abbrev pub AllNodes : (Label → ℕ → Type 0) → Forest → Type 0
AllNodes P empty = Unit {0}
AllNodes P (tree l k r) = P l (arity k) × AllNodes P k × AllNodes P r
