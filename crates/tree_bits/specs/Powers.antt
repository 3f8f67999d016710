-- Parts and their whole powers.
use Rattle.std.specs.Prelude.{ℕ, suc, ◌+◌, ◌*◌, ◌≤◌, ◌≡◌, ◌⊎◌, ℤ, pos, negsuc, [], true}
use Rattle.calc_algebra.specs.Surds.{Surd}
use Rattle.calc_bits.specs.Masses.{IsHeld}
use Rattle.calc_terms.specs.Trees.{Tree, Trees, none, more}
use Rattle.tree_bits.specs.{Exponents.{Counts, multiple, counts_of, counts_of_all, is_counted, are_counted}, HeldTrees.{Addend, base_in, exponent_in}}

-- an exponent that counts no more than another
pub record IsWithin (c d : Counts) : Type 0 where
  pub up : c.up ≤ d.up
  pub down : c.down ≤ d.down

-- an exponent that counts its base, and no more often than c
pub record IsCountedWithin (c : Counts) (t : Tree) : Type 0 where
  pub counted : is_counted t ≡ true
  pub within : IsWithin (counts_of t) c

-- t as the sum of exponents that count their base as often as all of them
abbrev pub AddsCounts : Trees → Tree → Type 0
AddsCounts ts t = are_counted ts ≡ true → IsCountedWithin (counts_of_all ts) t

-- u has the base of the factor t, and an exponent that counts n times that of t at most
pub record IsFactorPower (n : ℤ) (t u : Tree) : Type 0 where
  pub base : base_in u ≡ base_in t
  pub counted : is_counted (exponent_in u) ≡ true
  pub within : IsWithin (counts_of (exponent_in u)) (multiple n (counts_of (exponent_in t)))

-- us are the factors ts to the power n, place by place; to the power 0 no factor is left
abbrev pub IsPartPower : ℤ → Trees → Trees → Type 0
IsPartPower n ts none = (n ≡ pos 0) ⊎ (ts ≡ none)
IsPartPower n none (more u us) = ⊥
IsPartPower n (more t ts) (more u us) = IsFactorPower n t u × IsPartPower n ts us

-- the bits of a power n, which for n below 0 is that of an inverse
abbrev pub raised_high : ℤ → ℕ → ℕ → ℕ
raised_high (pos n) h l = n * h
raised_high (negsuc n) h l = suc n * (h + 2 * l)

abbrev pub raised_low : ℤ → ℕ → ℕ → ℕ
raised_low (pos n) h l = n * l
raised_low (negsuc n) h l = suc n * (2 * h + 2 * l)

-- what holds v holds w as its power n
abbrev pub IsHeldAsPower : ℤ → Surd → Surd → Type 0
IsHeldAsPower n v w = (h l : ℕ) → IsHeld v h l → IsHeld w (raised_high n h l) (raised_low n h l)

-- y is x to the power n
pub record IsAddendPower (n : ℤ) (x y : Addend) : Type 0 where
  pub coefficient : IsHeldAsPower n x.coefficient y.coefficient
  pub factors : IsPartPower n x.factors y.factors

-- 0 stands before no factors
abbrev pub IsZeroAlone : Addend → Type 0
IsZeroAlone x = x.coefficient ≡ [] → x.factors ≡ none
