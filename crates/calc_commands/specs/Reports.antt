-- What the reports say.
use Rattle.std.specs.Prelude.{ℕ, ◌+◌, ◌-◌, ◌/◌, ◌%◌, ◌==◌, List, [], ◌∷◌, ◌++◌, length, nat_lt, if◌then◌else◌, decimal, codes}
use Rattle.node_pool.specs.{Nodes.{used, encodings}, State.{State}}
use Rattle.tree_handles.specs.{Forest.{arity}, Standing.{forest}}

-- the bytes in use, the capacity, the nodes and the trees
abbrev pub pool_report : State → List ℕ
pool_report s = codes "pool " ++ (decimal (used s.nodes) ++ (codes "/" ++ (decimal s.size ++ (codes " nodes " ++ (decimal (length s.nodes) ++ (codes " trees " ++ decimal (arity (forest s))))))))

abbrev pub forgot_report : List ℕ → List ℕ
forgot_report name = codes "forgot " ++ name

abbrev pub unknown_report : List ℕ → List ℕ
unknown_report name = codes "no " ++ name

abbrev pub after_report : ℕ → List ℕ
after_report checks = codes "after " ++ decimal checks

-- ---- bytes

-- the hexadecimal digit of a number below 16, with small letters
abbrev pub hex_digit : ℕ → ℕ
hex_digit n = if nat_lt n 10 then 48 + n else 97 + (n - 10)

-- two digits
abbrev pub byte_text : ℕ → List ℕ
byte_text b = hex_digit (b / 16) ∷ hex_digit (b % 16) ∷ []

-- what stands before the byte at a place: nothing before the first, a newline where eight stand in the row, and else a blank
abbrev pub parting : ℕ → List ℕ
parting at = if at == 0 then [] else if at % 8 == 0 then 10 ∷ [] else 32 ∷ []

abbrev pub entry : ℕ → ℕ → List ℕ
entry at b = parting at ++ byte_text b

-- the bytes from a place on
abbrev pub entries : ℕ → List ℕ → List ℕ
entries at [] = []
entries at (b ∷ bytes) = entry at b ++ entries (at + 1) bytes

-- the bytes that the nodes take
abbrev pub dump_of : State → List ℕ
dump_of s = entries 0 (encodings s.nodes)
