-- How the nodes of a tree find room.
use Rattle.std.specs.Prelude.{ℕ, ◌-◌, List, [], ◌∷◌, nat_le, if◌then◌else◌, Result, Ok, Err}
use Rattle.calc_terms.specs.{Payload.{bare, size_of_payload}, Trees.{Tree, num, symbol, undef, root_size}}
use Rattle.calc_language.specs.Tokens.{literal, name}
use Rattle.node_pool.specs.declared.full.Full.{Full}
use Rattle.calc_parser.specs.Postfix.{Node, leaf, parent, postfix}

-- the bytes that a node takes
abbrev pub bytes_of_node : Node → ℕ
bytes_of_node (leaf (literal q)) = root_size (num q)
bytes_of_node (leaf (name x)) = root_size (symbol x)
bytes_of_node (leaf t) = root_size undef
bytes_of_node (parent k n) = size_of_payload (bare k)

-- Nodes are placed one after the other in the free bytes: what is left then, or, for the first that needs more than is left, what it needs and what is left.
abbrev pub placing : ℕ → List Node → Result ℕ Full
placing free [] = Ok free
placing free (n ∷ ns) = if nat_le (bytes_of_node n) free then placing (free - bytes_of_node n) ns else Err (record { needed = bytes_of_node n; free = free })

-- a tree is built in the free bytes: children are placed before their parent
abbrev pub building : ℕ → Tree → Result ℕ Full
building free t = placing free (postfix t)
