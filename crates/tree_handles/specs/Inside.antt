-- One node of a forest, wherever it stands.
use Rattle.std.specs.Prelude.{ℕ, ◌-◌, ◌==◌, if◌then◌else◌, Bool, true, false, nat_lt}
use Rattle.calc_terms.specs.Payload.{Payload}
use Rattle.tree_handles.specs.Forest.{Forest, empty, tree, join, kids, root_count, root_payload}

-- a node has the identifier
abbrev pub holds : ℕ → Forest → Bool
holds i empty = false
holds i (tree l k r) = if l.id == i then true else (if holds i k then true else holds i r)

-- the tree whose root has the identifier
abbrev pub tree_at : ℕ → Forest → Forest
tree_at i empty = empty
tree_at i (tree l k r) = if l.id == i then tree l k empty else (if holds i k then tree_at i k else tree_at i r)

-- its children, its root's count, and what its root holds
abbrev pub kids_of : ℕ → Forest → Forest
kids_of i f = kids (tree_at i f)

abbrev pub count_of : ℕ → Forest → ℕ
count_of i f = root_count (tree_at i f)

abbrev pub payload_in : ℕ → Forest → Payload
payload_in i f = root_payload (tree_at i f)

-- the forest with other children there
abbrev pub with_kids : ℕ → Forest → Forest → Forest
with_kids i new empty = empty
with_kids i new (tree l k r) = if l.id == i then tree l new r else (if holds i k then tree l (with_kids i new k) r else tree l k (with_kids i new r))

-- the forest with another count there
abbrev pub with_count_in : ℕ → ℕ → Forest → Forest
with_count_in i c empty = empty
with_count_in i c (tree l k r) = if l.id == i then tree (record l { count = c }) k r else (if holds i k then tree l (with_count_in i c k) r else tree l k (with_count_in i c r))

-- each tree loses a unit of its count. Where none is left its node goes, and so on with its children
abbrev pub released : Forest → Forest
released empty = empty
released (tree l k r) = if nat_lt 1 l.count then tree (record l { count = l.count - 1 }) k (released r) else join (released k) (released r)

-- the node with an identifier loses a unit of its count
abbrev pub released_in : ℕ → Forest → Forest
released_in i empty = empty
released_in i (tree l k r) = if l.id == i then join (released (tree l k empty)) r else (if holds i k then tree l (released_in i k) r else tree l k (released_in i r))
