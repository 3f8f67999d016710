-- The parts of a reduced tree can be shown.
use Rattle.calc_algebra.proofs.{SmallLaws.{own_form as first_part}, NumberLaws.{number_test}}
use Rattle.beautify.proofs.Shared.{◌≡◌, ◌≤◌, ℕ, ℤ, suc, arith, true, false, Tree, num, symbol, undef, add, mult, power, root, neg, sub, div, Trees, none, more, AllParts, AllPartsOf, is_mult, is_undef}
use Rattle.beautify.proofs.Shared.{HasTwo, Fraction, below_zero, exponent_below, has_minus, classes, is_reduced, NoneIs, HasForm, IsWholePowerForm, reduced_words, IsShowable, IsFactor, AreFactors}

-- the root of a part of a reduced tree
abbrev pub IsFormed : Tree → Type 0
IsFormed (neg a) = ⊥
IsFormed (sub a b) = ⊥
IsFormed (div a b) = ⊥
IsFormed undef = ⊥
IsFormed _ = Unit {0}

pub formed : (t : Tree) → HasForm t → IsFormed t
formed t h = grind arith

factor : (t : Tree) → IsFormed t → is_mult t ≡ false → IsFactor t
factor t f h = grind arith

factors : (ts : Trees) → AllPartsOf HasForm ts → NoneIs is_mult ts → AreFactors ts
factors none h n = tt
factors (more t ts) h n = (factor t (formed t (first_part t h.0)) n.0, factors ts h.1 n.1)

pub two_terms : (ts : Trees) → HasForm (add ts) → HasTwo ts
two_terms ts h = grind arith

pub two_factors : (ts : Trees) → HasForm (mult ts) → HasTwo ts × NoneIs is_mult ts
two_factors ts h = grind arith

-- an exponent below the line is whole
below_whole : (p : ℤ) (d k : ℕ) → below_zero p d ≡ suc k → d ≡ 1
below_whole p d k h = grind arith

-- a rational has one class at most
few_classes : (p : Fraction) → 3 ≤ classes (num p) → ⊥
few_classes p = grind arith

no_minus : (b : Tree) (q : Fraction) → IsWholePowerForm b q → has_minus b ≡ false
no_minus b q w = grind (arith, few_classes, number_test)

lone_base : (b e : Tree) → HasForm (power b e) → (n : ℕ) → exponent_below e ≡ suc n → has_minus b ≡ false
lone_base b e h n k = grind (arith, no_minus, below_whole)

mutual
  showable : (t : Tree) → AllParts HasForm t → AllParts IsShowable t
  showable (num q) h = tt
  showable (symbol x) h = tt
  showable undef h = formed undef h
  showable (add ts) h = (two_terms ts h.0, showables ts h.1)
  showable (mult ts) h = let p = two_factors ts h.0 in ((p.0, factors ts h.1 (p.1)), showables ts h.1)
  showable (power b e) h = (lone_base b e h.0, showable b h.1, showable e h.2)
  showable (root a) h = (tt, showable a h.1)
  showable t h = absurd (formed t h.0)

  showables : (ts : Trees) → AllPartsOf HasForm ts → AllPartsOf IsShowable ts
  showables none h = tt
  showables (more t ts) h = (showable t h.0, showables ts h.1)

pub reduced_showable : (t : Tree) → is_reduced t ≡ true → is_undef t ≡ false → AllParts IsShowable t
reduced_showable t h u = grind (arith, reduced_words, showable)
