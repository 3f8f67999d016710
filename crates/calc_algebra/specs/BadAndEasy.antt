-- Trees without symbols of which it is known whether they have a value.
use Rattle.std.specs.Prelude.{ℕ, ◌≡◌, ◌≤◌, ◌⊎◌, ℤ, pos, negsuc, ◌≤ℤ◌, [], length, true}
use Rattle.calc_terms.specs.{Integers.{int_is_negative}, Fractions.{Fraction, whole_fraction}, Trees.{Tree, undef, power, root, div, names, IsPart}}
use Rattle.calc_algebra.specs.{Surds.{Surd, surd_of}, SquareClasses.{Same}, Meanings.{Means}}

-- v is a meaning of the tree under no assignment
abbrev pub HasValue : Tree → Surd → Type 0
HasValue t v = Means t [] v

-- it means zero
abbrev pub IsZero : Tree → Type 0
IsZero t = HasValue t []

-- it means the whole number n
abbrev pub IsWhole : Tree → ℤ → Type 0
IsWhole t n = HasValue t (surd_of (whole_fraction n))

-- it means half of an odd whole number, a fraction h with denominator 2
abbrev pub IsHalf : Tree → Fraction → Type 0
IsHalf t h = (h.den ≡ 2) × HasValue t (surd_of h)

-- it means a rational below zero
abbrev pub IsNegative : Tree → Type 0
IsNegative t = (q : Fraction) × (int_is_negative q.num ≡ true) × HasValue t (surd_of q)

-- as an exponent it gives zero no power: it means a whole number of at most 0, or half of an odd one below 0
abbrev pub GivesZeroNoPower : Tree → Type 0
GivesZeroNoPower e = ((n : ℤ) × (n ≤ℤ pos 0) × IsWhole e n) ⊎ ((h : Fraction) × (int_is_negative h.num ≡ true) × IsHalf e h)

-- Undef, a division by zero, zero to a power that it does not have, a negative rational to half of an odd whole number, or
-- the root of a negative rational
abbrev pub IsBadNode : Tree → Type 0
IsBadNode undef = Unit {0}
IsBadNode (div a b) = IsZero b
IsBadNode (power b e) = (IsZero b × GivesZeroNoPower e) ⊎ (IsNegative b × (h : Fraction) × IsHalf e h)
IsBadNode (root a) = IsNegative a
IsBadNode _ = ⊥

-- some part is a bad node
abbrev pub IsBad : Tree → Type 0
IsBad t = (p : Tree) × IsPart p t × IsBadNode p

-- v is Same to a list of at most two terms
abbrev pub IsShort : Surd → Type 0
IsShort v = (w : Surd) × Same v w × (length w ≤ 2)

-- a tree without symbols, each part Bad or with a value, and each value that is inverted of at most two terms
pub record IsEasy (t : Tree) : Type 0 where
  pub no_symbols : names t ≡ []
  pub decided : (p : Tree) → IsPart p t → IsBad p ⊎ ((v : Surd) × HasValue p v)
  pub short_divisors : (a b : Tree) → IsPart (div a b) t → (v : Surd) → HasValue b v → IsShort v
  pub short_bases : (b e : Tree) → IsPart (power b e) t → (n : ℕ) → IsWhole e (negsuc n) → (v : Surd) → HasValue b v → IsShort v
