-- What the root of a reduced tree reduces to.
use Rattle.std.specs.Prelude.{◌≡◌, ◌≤◌, Bool, true, false, ⊤}
use Rattle.calc_terms.specs.{Fractions.{Fraction}, Integers.{int_is_negative}, Trees.{Tree, num, undef, root, is_num, is_undef}}
use Rattle.calc_measures.specs.Loads.{nest, load}
use Rattle.calc_algebra.specs.{Numbers.{is_number}, Rewritings.{Reduces}}

-- the tree under a root
abbrev pub argument_of : Tree → Tree
argument_of (root a) = a
argument_of t = undef

-- a fact of a rational
abbrev pub IfRational : Tree → (Fraction → Type 0) → Type 0
IfRational (num q) P = P q
IfRational t P = ⊤

-- Undef, or a rational below 0
abbrev pub has_no_root : Tree → Bool
has_no_root undef = true
has_no_root (num q) = int_is_negative q.num
has_no_root _ = false

-- the root of a: Undef, a Number that is the root of a rational, or the root as it was
pub record IsRootAnswer (a t : Tree) : Type 0 where
  pub reduces : Reduces (root a) t
  pub undefined : is_undef t ≡ has_no_root a
  pub number : is_num a ≡ true → has_no_root a ≡ false → is_number t ≡ true
  pub kept : is_num a ≡ false → has_no_root a ≡ false → t ≡ root a
  pub nest : nest t ≤ nest (root a)
  pub load : load t ≤ load (root a)
