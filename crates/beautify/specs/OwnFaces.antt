-- Trees whose rationals are written as they are.
use Rattle.std.specs.Prelude.{Bool, true, ◌&&◌, ◌==◌, not}
use Rattle.calc_algebra.specs.Reduced.{all_parts}
use Rattle.calc_terms.specs.{Fractions.{lowest}, Integers.{int_is_negative}, Payload.{Payload, rational}, Trees.{Tree, num}}

-- whole and at least 0, where the tree is a rational
abbrev pub is_natural : Tree → Bool
is_natural (num q) = (q.den == 1) && not (int_is_negative q.num)
is_natural t = true

-- all rationals in the tree, exponents among them, are whole and at least 0
abbrev pub has_natural_numbers : Tree → Bool
has_natural_numbers t = all_parts is_natural t

-- a node's rational, where it holds one
abbrev pub holds_natural : Payload → Bool
holds_natural (rational r) = is_natural (num (lowest r.num r.den))
holds_natural x = true
