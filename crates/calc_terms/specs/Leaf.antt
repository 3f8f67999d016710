-- Names and leaves of the code as plain data.
use Rattle.std.specs.Prelude.{ℕ, List, ◌≡◌, true}
use Rattle.calc_terms.specs.{declared.name.Name.{Name}, declared.leaf.Leaf.{Leaf}}
use Rattle.calc_terms.specs.declared.leaf.Leaf.TheVariants as leaf
use Rattle.calc_terms.specs.{Rat.{ratio_of}, Name.{before_zero}, Payload.{Payload, rational, named, bare, is_bare}}

-- the bytes of a name, without the zeros
abbrev pub name_of : Name → List ℕ
name_of n = before_zero n.text

abbrev pub payload_of : Leaf → Payload
payload_of (leaf.Num r) = rational (ratio_of r)
payload_of (leaf.Sym n) = named (name_of n)
payload_of (leaf.Plain k) = bare k

-- a plain leaf is neither a number nor a symbol
abbrev pub IsUsable : Leaf → Type 0
IsUsable (leaf.Num r) = Unit {0}
IsUsable (leaf.Sym n) = Unit {0}
IsUsable (leaf.Plain k) = is_bare k ≡ true
