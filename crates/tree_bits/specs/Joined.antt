-- Factors with one base, joined.
use Rattle.std.specs.Prelude.{◌≡◌, true}
use Rattle.calc_terms.specs.Trees.{Tree}
use Rattle.tree_bits.specs.{Exponents.{counts_of, is_counted, added}, HeldTrees.{base_in, exponent_in}, Powers.{IsWithin}}

-- v has the base of both t and u, and an exponent that counts as the sum of theirs at most
pub record IsJoint (t u v : Tree) : Type 0 where
  pub same : base_in u ≡ base_in t
  pub base : base_in v ≡ base_in t
  pub counted : is_counted (exponent_in v) ≡ true
  pub within : IsWithin (counts_of (exponent_in v)) (added (counts_of (exponent_in t)) (counts_of (exponent_in u)))
