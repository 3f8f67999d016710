-- How long texts are.
use Rattle.std.specs.Prelude.{◌≡◌, true}
use Rattle.calc_terms.specs.{Fits.{fits}, Trees.{Tree, num, AllParts}}

-- a rational's numerator has a magnitude of at most 2^127 - 1
abbrev pub IsFitting : Tree → Type 0
IsFitting (num q) = fits q.num ≡ true
IsFitting t = Unit {0}

-- that of each rational in it
abbrev pub HasFittingNumbers : Tree → Type 0
HasFittingNumbers t = AllParts IsFitting t
