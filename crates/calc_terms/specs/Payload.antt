-- What a node holds, as plain data.
use Rattle.std.specs.Prelude.{ℕ, List, Bool, true, false, ◌≡◌}
use Rattle.calc_terms.specs.declared.kind.Kind.{Kind}
use Rattle.calc_terms.specs.declared.kind.Kind.TheVariants as kind
use Rattle.calc_terms.specs.{Kind.{size_by_form}, Fractions.{lowest}, Ratio.{Ratio, IsRat}, Short.{is_short}, Name.{is_name}}

-- a rational, a name by its bytes, or a kind alone
pub data Payload : Type 0 where
  rational : Ratio → Payload
  named : List ℕ → Payload
  bare : Kind → Payload

abbrev pub kind_of_payload : Payload → Kind
kind_of_payload (rational r) = kind.Num
kind_of_payload (named x) = kind.Sym
kind_of_payload (bare k) = k

-- a number that has the short form
abbrev pub has_short_form : Payload → Bool
has_short_form (rational r) = is_short (lowest r.num r.den)
has_short_form (named x) = false
has_short_form (bare k) = false

-- the bytes of a node that holds it
abbrev pub size_of_payload : Payload → ℕ
size_of_payload x = size_by_form (kind_of_payload x) (has_short_form x)

-- a kind that stands alone
abbrev pub is_bare : Kind → Bool
is_bare kind.Num = false
is_bare kind.Sym = false
is_bare k = true

-- what a node may hold
abbrev pub IsPayload : Payload → Type 0
IsPayload (rational r) = IsRat r
IsPayload (named x) = is_name x ≡ true
IsPayload (bare k) = is_bare k ≡ true
