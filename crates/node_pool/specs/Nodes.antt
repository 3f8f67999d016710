-- Lists of nodes: their bytes, and the nodes by their identifiers.
use Rattle.std.specs.Prelude.{ℕ, ◌≡◌, ◌<◌, ◌+◌, ◌==◌, if◌then◌else◌, List, [], ◌∷◌, ◌++◌, Bool, true, false}
use Rattle.calc_terms.specs.declared.kind.Kind.TheVariants as kind
use Rattle.calc_terms.specs.{declared.kind.Kind.{Kind}, Payload.{Payload, bare}, Node.{Node, size_of, encoding, IsNode}}

-- the bytes that nodes take
abbrev pub used : List Node → ℕ
used [] = 0
used (n ∷ ns) = size_of n + used ns

-- the bytes of nodes, one after another
abbrev pub encodings : List Node → List ℕ
encodings [] = []
encodings (n ∷ ns) = encoding n ++ encodings ns

abbrev pub AreNodes : List Node → Type 0
AreNodes [] = Unit {0}
AreNodes (n ∷ ns) = IsNode n × AreNodes ns

-- a node has the identifier
abbrev pub has : ℕ → List Node → Bool
has id [] = false
has id (n ∷ ns) = if n.id == id then true else has id ns

-- no two nodes have one identifier
abbrev pub AreDistinct : List Node → Type 0
AreDistinct [] = Unit {0}
AreDistinct (n ∷ ns) = (has n.id ns ≡ false) × AreDistinct ns

-- the least identifier that no node has
pub record IsLeastFree (id : ℕ) (ns : List Node) : Type 0 where
  pub free : has id ns ≡ false
  pub least : (k : ℕ) → k < id → has k ns ≡ true

-- where the node with an identifier begins
abbrev pub place_of : ℕ → List Node → ℕ
place_of id [] = 0
place_of id (n ∷ ns) = if n.id == id then 0 else size_of n + place_of id ns

-- what the node with an identifier holds
abbrev pub payload_of_id : ℕ → List Node → Payload
payload_of_id id [] = bare kind.Undef
payload_of_id id (n ∷ ns) = if n.id == id then n.payload else payload_of_id id ns

-- the node with an identifier gets another count
abbrev pub with_count : ℕ → ℕ → List Node → List Node
with_count id c [] = []
with_count id c (n ∷ ns) = if n.id == id then record n { count = c } ∷ ns else n ∷ with_count id c ns

-- the node with an identifier gets another number of children
abbrev pub with_children : ℕ → ℕ → List Node → List Node
with_children id k [] = []
with_children id k (n ∷ ns) = if n.id == id then record n { children = k } ∷ ns else n ∷ with_children id k ns

-- the first node, and one without meaning where there is none
abbrev pub blank : Node
blank = record { id = 0; count = 0; children = 0; payload = bare kind.Undef }

abbrev pub first_of : List Node → Node
first_of [] = blank
first_of (n ∷ ns) = n

-- a new node that holds a kind alone, over so many trees
abbrev pub parent : ℕ → Kind → ℕ → Node
parent id k children = record { id = id; count = 1; children = children; payload = bare k }
