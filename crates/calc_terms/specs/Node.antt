-- Nodes, and their bytes.
use Rattle.std.specs.{Prelude.{ℕ, zero, suc, ◌+◌, ◌*◌, ◌/◌, ◌%◌, ◌^◌, ◌<◌, ◌==◌, Bool, true, false, List, [], ◌∷◌, ◌++◌, take, drop, Option, Some, None}, Int.{w64, w128, cast_signed, cast_unsigned}}
use Rattle.calc_terms.specs.declared.kind.Kind.{Kind}
use Rattle.calc_terms.specs.declared.kind.Kind.TheVariants as kind
use Rattle.calc_terms.specs.{declared.leaf.Header.{Header}, Kind.{code_of, kind_of, size_by_form}, Ratio.{Ratio, whole}, Name.{before_zero, padded}, Payload.{Payload, rational, named, bare}}
use Rattle.calc_terms.specs.Payload.{kind_of_payload, has_short_form, size_of_payload, IsPayload}

pub record Node : Type 0 where
  pub id : ℕ
  pub count : ℕ
  pub children : ℕ
  pub payload : Payload

-- a new node: it is held once and has no children
abbrev pub fresh : ℕ → Payload → Node
fresh id x = record { id = id; count = 1; children = 0; payload = x }

abbrev pub header_of : Node → Header
header_of n = record { kind = kind_of_payload n.payload; short = has_short_form n.payload; id = n.id; count = n.count; children = n.children }

-- the bytes of a node
abbrev pub size_of : Node → ℕ
size_of n = size_of_payload n.payload

-- the bytes of the node behind a header
abbrev pub size_of_header : Header → ℕ
size_of_header h = size_by_form h.kind h.short

-- what its bytes can hold
pub record IsNode (n : Node) : Type 0 where
  pub id : n.id < 2 ^ 16
  pub count : n.count < 2 ^ 16
  pub children : n.children < 2 ^ 16
  pub payload : IsPayload n.payload

-- ---- bytes

-- the k low bytes of a number, the lowest first
unfoldable pub low_bytes : ℕ → ℕ → List ℕ
low_bytes zero n = []
low_bytes (suc k) n = n % 256 ∷ low_bytes k (n / 256)

-- the number of these bytes, the lowest first
abbrev pub from_bytes : List ℕ → ℕ
from_bytes [] = 0
from_bytes (b ∷ bs) = b + 256 * from_bytes bs

-- 1 for the short form
abbrev pub form_of : Bool → ℕ
form_of true = 1
form_of false = 0

-- kind, form, identifier, count, children
unfoldable pub header_bytes : Header → List ℕ
header_bytes h = low_bytes 1 (code_of h.kind) ++ (low_bytes 1 (form_of h.short) ++ (low_bytes 2 h.id ++ (low_bytes 2 h.count ++ low_bytes 2 h.children)))

-- numerator and denominator
abbrev pub ratio_bytes : Ratio → List ℕ
ratio_bytes r = low_bytes 16 (cast_unsigned w128 r.num) ++ low_bytes 16 r.den

-- a number; in the short form its value in two's complement
abbrev pub number_bytes : Bool → Ratio → List ℕ
number_bytes true r = low_bytes 8 (cast_unsigned w64 r.num)
number_bytes false r = ratio_bytes r

abbrev pub payload_bytes : Payload → List ℕ
payload_bytes (rational r) = number_bytes (has_short_form (rational r)) r
payload_bytes (named x) = padded x
payload_bytes (bare k) = []

-- the bytes of a node: its header and its payload
unfoldable pub encoding : Node → List ℕ
encoding n = header_bytes (header_of n) ++ payload_bytes n.payload

-- ---- from bytes

-- the kind of a code, Undef where it is none
abbrev pub kind_or_undef : Option Kind → Kind
kind_or_undef None = kind.Undef
kind_or_undef (Some k) = k

unfoldable pub kind_at : List ℕ → Kind
kind_at bytes = kind_or_undef (kind_of (from_bytes (take 1 bytes)))

-- the form is 1
unfoldable pub short_at : List ℕ → Bool
short_at bytes = from_bytes (take 1 (drop 1 bytes)) == 1

abbrev pub ratio_at : List ℕ → Ratio
ratio_at bytes = record { num = cast_signed w128 (from_bytes (take 16 bytes)); den = from_bytes (take 16 (drop 16 bytes)) }

abbrev pub number_at : Bool → List ℕ → Ratio
number_at true bytes = whole (cast_signed w64 (from_bytes (take 8 bytes)))
number_at false bytes = ratio_at bytes

abbrev pub payload_at : Kind → Bool → List ℕ → Payload
payload_at kind.Num short bytes = rational (number_at short bytes)
payload_at kind.Sym short bytes = named (before_zero (take 8 bytes))
payload_at k short bytes = bare k

-- the header whose bytes stand in front
unfoldable pub header_in : List ℕ → Header
header_in bytes = record {
  kind = kind_at bytes;
  short = short_at bytes;
  id = from_bytes (take 2 (drop 2 bytes));
  count = from_bytes (take 2 (drop 4 bytes));
  children = from_bytes (take 2 (drop 6 bytes));
}

-- the node whose bytes stand in front
unfoldable pub node_at : List ℕ → Node
node_at bytes = record {
  id = (header_in bytes).id;
  count = (header_in bytes).count;
  children = (header_in bytes).children;
  payload = payload_at (header_in bytes).kind (header_in bytes).short (drop 8 bytes);
}
