-- Exponents that mean whole numbers.
use Rattle.std.specs.Prelude.{ℕ, ℤ, List, map, ⊤}
use Rattle.calc_algebra.specs.{Meanings.{Assignment, Means}, Surds.{surd_of}}
use Rattle.calc_terms.specs.{Fractions.{whole_fraction, zero_fraction}, Trees.{Tree, power, Trees, AllParts, AllPartsOf}}

-- the tree means a whole number under f
abbrev pub MeansWhole : Assignment → Tree → Type 0
MeansWhole f e = (n : ℤ) × Means e f (surd_of (whole_fraction n))

-- nothing is asked of another tree
abbrev pub HasCalmExponent : Assignment → Tree → Type 0
HasCalmExponent f (power b e) = MeansWhole f e
HasCalmExponent f _ = ⊤

-- each exponent in the tree means a whole number
abbrev pub IsCalm : Assignment → Tree → Type 0
IsCalm f t = AllParts (HasCalmExponent f) t

abbrev pub AreCalm : Assignment → Trees → Type 0
AreCalm f ts = AllPartsOf (HasCalmExponent f) ts

-- every name is 0
abbrev pub zeros : List (List ℕ) → Assignment
zeros ns = map (λ x. record { name = x; value = zero_fraction }) ns
