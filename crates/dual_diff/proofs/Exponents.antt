-- Exponents that are whole literals, and the powers that are derivable.
use Rattle.dual_diff.proofs.Shared.{value_by, opposite_by, arith, ◌≡◌, ℕ, List, ℤ, ◌≤◌, Bool, true, false, sym, ap, ◌∙◌, ◌↔◌, Contains, IsTrue, Some, None, nat_abs}
use Rattle.dual_diff.proofs.Shared.{whole_value, opposite, whole_literal, Rat, Fraction, negative, ratio_of, value_of, Tree, names, root_kind, ratio_parts, nth, children_of, IsDerivable}
use Rattle.dual_diff.proofs.{Shared.{IsDerivableExponent, exponent_limit, occurs, eq-eqb, negative_parts}, Occurring.{told, names_occur}}
use Rattle.calc_terms.specs.declared.kind.Kind.TheVariants as kind

-- ---- whole numbers

pub whole_some : (q : Fraction) (z : ℤ) → z ≡ q.num → q.den ≡ 1 → Some z ≡ whole_value q
whole_some q z e d = ap Some e ∙ sym (value_by true q (eq-eqb q.den 1 d))

pub whole_none : (q : Fraction) (b : Bool) → (IsTrue b ↔ (q.den ≡ 1)) → b ≡ false → None ≡ whole_value q
whole_none q b h f = grind arith

pub rat_whole : (r : Rat) (b : Bool) → (IsTrue b ↔ ((ratio_of r).den ≡ 1)) → (IsTrue b ↔ ((value_of r).den ≡ 1))
rat_whole r b h = (λ t. (ratio_parts r).den ∙ h.0 t, λ d. h.1 (sym (ratio_parts r).den ∙ d))

pub opposite_whole : (q : Fraction) → whole_value (negative q) ≡ opposite (whole_value q)
opposite_whole q = grind (arith, negative_parts, opposite_by)

-- ---- derivable powers

pub power_derivable : (x : List ℕ) (t : Tree) → root_kind t ≡ kind.Pow → IsDerivableExponent (nth 1 (children_of t)) → IsDerivable x t
power_derivable x t h d = grind arith

pub derivable_exponent : (x : List ℕ) (t : Tree) → root_kind t ≡ kind.Pow → occurs x t ≡ true → IsDerivable x t → IsDerivableExponent (nth 1 (children_of t))
derivable_exponent x t h o d = grind arith

pub absent_derivable : (x : List ℕ) (t : Tree) → occurs x t ≡ false → IsDerivable x t
absent_derivable x t o = grind arith

pub other_derivable : (x : List ℕ) (t : Tree) → (root_kind t ≡ kind.Pow → ⊥) → IsDerivable x t
other_derivable x t o = grind arith

-- what a reader tells
pub held : (b : Bool) (x : List ℕ) (t : Tree) → (IsTrue b ↔ Contains (names t) x) → occurs x t ≡ b
held b x t h = sym (told b (occurs x t) (Contains (names t) x) h (names_occur x t))

pub exponent_small : (t : Tree) (z : ℤ) → Some z ≡ whole_literal t → IsDerivableExponent t → nat_abs z ≤ exponent_limit
exponent_small t z e d = grind arith

pub exponent_none : (t : Tree) → None ≡ whole_literal t → IsDerivableExponent t → ⊥
exponent_none t e d = let both : None ≡ Some d.number = e ∙ d.literal in absurd cc
