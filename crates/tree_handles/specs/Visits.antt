-- Nodes, as a walk over trees comes to them.
use Rattle.std.specs.Prelude.{ℕ, ◌≡◌, List, map, true}
use Rattle.calc_terms.specs.{Node.{Node}, Payload.{kind_of_payload}}
use Rattle.tree_handles.specs.{declared.visits.Visit.{Visit}, Forest.{Forest, empty, tree, arity, flatten}, Inside.{holds, tree_at, kids_of, payload_in}}

-- a node without its count and what it holds
abbrev pub visit_of : Node → Visit
visit_of n = record { kind = kind_of_payload n.payload; id = n.id; children = n.children }

-- each parent before its children
abbrev pub visits_of : Forest → List Visit
visits_of f = map visit_of (flatten f)

-- the node with an identifier
abbrev pub visit_at : ℕ → Forest → Visit
visit_at i f = record { kind = kind_of_payload (payload_in i f); id = i; children = arity (kids_of i f) }

-- each tree in a forest is found by its root's identifier
abbrev pub AreFound : Forest → Forest → Type 0
AreFound base empty = Unit {0}
AreFound base (tree l k r) = ((holds l.id base ≡ true) × (tree_at l.id base ≡ tree l k empty)) × AreFound base k × AreFound base r
