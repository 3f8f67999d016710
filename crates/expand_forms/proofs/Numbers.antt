-- Rationals as literals.
use Rattle.expand_forms.proofs.Shared.{value_by, opposite_by, clash, arith, ◌≡◌, ℤ, Bool, true, false, ◌↔◌, IsTrue, Some, false_from_ne_true, opposite}
use Rattle.expand_forms.proofs.Shared.{ap, sym, ◌∙◌, pos, to_z, of_z, w128, told, whole_numerator, IsRat, IsRead, Factor}
use Rattle.expand_forms.specs.declared.factors.Factor.{Factor as Read}
use Rattle.expand_forms.proofs.Shared.{whole_value, Rat, Fraction, negative, ratio_of, value_of, ratio_parts, negative_parts, is_small}

-- a rational that is whole is small where its numerator is
pub small_some : (r : Rat) (b : Bool) (z : ℤ) → (IsTrue b ↔ ((ratio_of r).den ≡ 1)) → b ≡ true → z ≡ (ratio_of r).num → is_small (Some z) ≡ is_small (whole_value (value_of r))
small_some r b z h t e = grind (arith, ratio_parts, value_by)

pub small_none : (r : Rat) (b : Bool) → (IsTrue b ↔ ((ratio_of r).den ≡ 1)) → b ≡ false → false ≡ is_small (whole_value (value_of r))
small_none r b h f = grind (arith, value_by, false_from_ne_true, clash, ratio_parts)

pub opposite_whole : (q : Fraction) → whole_value (negative q) ≡ opposite (whole_value q)
opposite_whole q = grind (arith, negative_parts, opposite_by)

-- ---- the exponent of a factor, as its numerator

pub exponent_read : (z : ℤ) (x : Read) (f : Factor) → IsRead x f → z ≡ (ratio_of x.exponent).num → IsRat (ratio_of x.exponent) → to_z w128 (of_z w128 z) ≡ pos f.exponent
exponent_read z x f r e is =
    ap (λ (y : ℤ). to_z w128 (of_z w128 y)) e ∙ told (ratio_of x.exponent).num (omega (arith, is.num_fits)) ∙ sym (ratio_parts x.exponent).num
    ∙ ap (λ (q : Fraction). q.num) r.exponent ∙ whole_numerator (pos f.exponent)
