-- The roots of a forest, and their trees.
use Rattle.std.specs.Prelude.{ℕ, ◌<◌, ◌≡◌, ◌⊎◌, ◌==◌, if◌then◌else◌, Bool, true, false}
use Rattle.tree_handles.specs.{Forest.{Forest, empty, tree, join, first_trees, rest_trees}, Inside.{count_of}}

abbrev pub has_root : ℕ → Forest → Bool
has_root i empty = false
has_root i (tree l k r) = if l.id == i then true else has_root i r

-- the tree of a root
abbrev pub root_tree : ℕ → Forest → Forest
root_tree i empty = empty
root_tree i (tree l k r) = if l.id == i then tree l k empty else root_tree i r

-- the other trees
abbrev pub without_root : ℕ → Forest → Forest
without_root i empty = empty
without_root i (tree l k r) = if l.id == i then r else tree l k (without_root i r)

-- the tree of a root with other children, where it stood
abbrev pub put : ℕ → Forest → Forest → Forest
put i new empty = empty
put i new (tree l k r) = if l.id == i then tree l new r else tree l k (put i new r)

-- the trees behind a root
abbrev pub behind_root : ℕ → Forest → Forest
behind_root i empty = empty
behind_root i (tree l k r) = if l.id == i then r else behind_root i r

-- the first n of them as further children of the root, behind those that it has
abbrev pub adopted : ℕ → ℕ → Forest → Forest
adopted i n empty = empty
adopted i n (tree l k r) = if l.id == i then tree l (join k (first_trees n r)) (rest_trees n r) else tree l k (adopted i n r)

-- a unit of its count may be released: no parent is left with a node that is gone
abbrev pub IsReleasable : ℕ → Forest → Type 0
IsReleasable i f = (has_root i f ≡ true) ⊎ (1 < count_of i f)
