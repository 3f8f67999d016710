-- By how many bits a reduced tree is held: as a sum of coefficients before parts, whose factors are powers of bases.
use Rattle.std.specs.Prelude.{ℕ, ◌+◌, ◌*◌, ◌≤◌, ◌≡◌, List, [], ◌∷◌, Bool, true, false, not, if◌then◌else◌}
use Rattle.calc_algebra.specs.{Numbers.{is_number, terms_of, value}, Reduced.{num_one, number_terms, other_terms, split_product}, Surds.{Surd, surd_one}}
use Rattle.calc_terms.specs.Trees.{Tree, symbol, undef, add, mult, power, root, Trees, none, more}
use Rattle.tree_bits.specs.{Exponents.{Counts, counts_of, is_counted}, Weighted.{Weighted, weighted, AreHeld}}

-- a coefficient and the factors behind it
pub record Addend : Type 0 where
  pub coefficient : Surd
  pub factors : Trees

abbrev pub addend : Surd → Trees → Addend
addend c ts = record { coefficient = c; factors = ts }

-- a term that is no Number
abbrev pub addend_of : Tree → Addend
addend_of (mult ts) = addend (value (split_product ts).coefficient) (split_product ts).factors
addend_of t = addend surd_one (more t none)

abbrev pub addends_of : Trees → List Addend
addends_of none = []
addends_of (more t ts) = addend_of t ∷ addends_of ts

-- the Number of a sum, which has no factors, and its other terms
abbrev pub addends : Tree → List Addend
addends (add ts) = addend (terms_of (number_terms ts)) none ∷ addends_of (other_terms ts)
addends t = if is_number t then addend (value t) none ∷ [] else addend_of t ∷ []

abbrev pub base_in : Tree → Tree
base_in (power b e) = b
base_in t = t

abbrev pub exponent_in : Tree → Tree
exponent_in (power b e) = e
exponent_in t = num_one

-- the bits of a power whose base is held by (h, l)
abbrev pub power_high : Counts → ℕ → ℕ → ℕ
power_high c h l = c.up * h + c.down * (h + 2 * l)

abbrev pub power_low : Counts → ℕ → ℕ → ℕ
power_low c h l = c.up * l + c.down * (2 * h + 2 * l)

-- a symbol, and a root that is no Number
abbrev pub is_simple_base : Tree → Bool
is_simple_base (symbol x) = true
is_simple_base (root a) = not (is_number (root a))
is_simple_base _ = false

mutual
  -- Undef is held by everything
  pub data IsTreeHeld : Tree → ℕ → ℕ → Type 0 where
    undef_held : {h l : ℕ} → IsTreeHeld undef h l
    sum_held : {t : Tree} {h l : ℕ} (ws : List Weighted) → AreWeighted (addends t) ws → AreHeld ws h l → IsTreeHeld t h l

  -- each part is held by its bits
  pub data AreWeighted : List Addend → List Weighted → Type 0 where
    none_weighted : AreWeighted [] []
    more_weighted : {a : Addend} {rest : List Addend} {ws : List Weighted} (h l : ℕ) → IsPartHeld a.factors h l → AreWeighted rest ws → AreWeighted (a ∷ rest) (weighted a.coefficient h l ∷ ws)

  -- a part by the bits of its factors together
  pub data IsPartHeld : Trees → ℕ → ℕ → Type 0 where
    no_factor_held : {h l : ℕ} → IsPartHeld none h l
    factor_held : {t : Tree} {ts : Trees} {h l : ℕ} (p q k n : ℕ) → is_counted (exponent_in t) ≡ true → IsBaseHeld (base_in t) p q → IsPartHeld ts k n
        → power_high (counts_of (exponent_in t)) p q + k ≤ h → power_low (counts_of (exponent_in t)) p q + n ≤ l → IsPartHeld (more t ts) h l

  -- a root as its argument, with high of at least 1, as each base has
  pub data IsBaseHeld : Tree → ℕ → ℕ → Type 0 where
    symbol_held : {x : List ℕ} {h l : ℕ} → 1 ≤ h → IsBaseHeld (symbol x) h l
    root_held : {a : Tree} {h l : ℕ} → 1 ≤ h → is_number (root a) ≡ false → IsTreeHeld a h l → IsBaseHeld (root a) h l
    tree_held : {b : Tree} {h l : ℕ} → 1 ≤ h → is_simple_base b ≡ false → IsTreeHeld b h l → IsBaseHeld b h l
