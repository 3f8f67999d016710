-- By how many bits the factors of a product are held together.
use Rattle.std.specs.Prelude.{ℕ, ◌+◌, ◌≤◌, [], ◌∷◌}
use Rattle.calc_algebra.specs.{Numbers.{natural_of}, Surds.{term}}
use Rattle.calc_bits.specs.Masses.{IsHeld}
use Rattle.calc_terms.specs.{Fractions.{Fraction}, Trees.{Tree, num, root, Trees, none, more}}
use Rattle.tree_bits.specs.{Children.{IsSumHeld}, Factors.{as_factor}}

-- as a factor the tree is held by (h, l)
abbrev pub IsFactorHeld : Tree → ℕ → ℕ → Type 0
IsFactorHeld t h l = IsSumHeld (as_factor t ∷ []) h l

-- each factor by bits of its own, which together are at most these; a rational and the root right behind it may be held as one Number
pub data AreFactorsHeld : Trees → ℕ → ℕ → Type 0 where
  none_held : {h l : ℕ} → AreFactorsHeld none h l
  factor_held : {t : Tree} {ts : Trees} {h l : ℕ} (p q k n : ℕ) → IsFactorHeld t p q → AreFactorsHeld ts k n → p + k ≤ h → q + n ≤ l
      → AreFactorsHeld (more t ts) h l
  term_held : {c r : Fraction} {ts : Trees} {h l : ℕ} (p q k n : ℕ) → IsHeld (term c (natural_of r.num) ∷ []) p q → AreFactorsHeld ts k n
      → p + k ≤ h → q + n ≤ l → AreFactorsHeld (more (num c) (more (root (num r)) ts)) h l
