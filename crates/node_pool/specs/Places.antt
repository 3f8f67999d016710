-- Places in the bytes of nodes: a place is the number of the bytes before it.
use Rattle.std.specs.Prelude.{ℕ, ◌≡◌, ◌+◌, ◌-◌, ◌==◌, if◌then◌else◌, List, [], ◌∷◌, ◌++◌, nat_le}
use Rattle.calc_terms.specs.Node.{Node, size_of}
use Rattle.node_pool.specs.Nodes.{used}

-- the nodes that begin before a place
abbrev pub until : ℕ → List Node → List Node
until at [] = []
until at (n ∷ ns) = if at == 0 then [] else n ∷ until (at - size_of n) ns

-- the nodes from a place on
abbrev pub since : ℕ → List Node → List Node
since at [] = []
since at (n ∷ ns) = if at == 0 then n ∷ ns else since (at - size_of n) ns

-- the nodes from one place to before another
abbrev pub between : ℕ → ℕ → List Node → List Node
between at to ns = until (to - at) (since at ns)

-- a node begins there, or all nodes end there
abbrev pub IsBoundary : ℕ → List Node → Type 0
IsBoundary at ns = used (until at ns) ≡ at

-- without the nodes from one place to before another
abbrev pub without : ℕ → ℕ → List Node → List Node
without at to ns = until at ns ++ since to ns

-- the nodes from b to before c stand before those from a to before b
abbrev pub swapped : ℕ → ℕ → ℕ → List Node → List Node
swapped a b c ns = until a ns ++ (between b c ns ++ (between a b ns ++ since c ns))

-- the nodes in len bytes from a place on stand before what begins at another
abbrev pub moved : ℕ → ℕ → ℕ → List Node → List Node
moved from len to ns = if nat_le to from then swapped to from (from + len) ns else swapped from (from + len) to ns

-- the nodes from a to before b and those from c to before d change places
abbrev pub exchanged : ℕ → ℕ → ℕ → ℕ → List Node → List Node
exchanged a b c d ns = until a ns ++ (between c d ns ++ (between b c ns ++ (between a b ns ++ since d ns)))

-- one node more, before the nodes that begin at a place
abbrev pub put_before : ℕ → Node → List Node → List Node
put_before at n ns = until at ns ++ n ∷ since at ns
