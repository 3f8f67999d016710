-- What the kind of a node over expanded children tells of it.
use Rattle.expand_forms.proofs.Shared.{◌≡◌, ◌≢◌, ◌≤◌, ℕ, ℤ, pos, Bool, true, false, of_z, to_z, ap, ◌∙◌, arith, FitsSigned, Some, None, if◌then◌else◌, w128, to_z-of_z, Rat, Fraction, ratio_of}
use Rattle.expand_forms.proofs.Shared.{value_of, Tree, num, power, div, count, is_num, root_kind, expanded, exponent_of, has_polynomial_root, is_divisor, is_exponent, is_small, natural_of}
use Rattle.expand_forms.proofs.{Shared.{polynomial_of, AreExpanded, IsExpanded, ratio_parts, children_of, nth, has_factors, has_parts}, Expansions.{constant_expanded, name_expanded}}
use Rattle.expand_forms.proofs.NodeChildren.{expanded_nth}
use Rattle.calc_terms.specs.declared.kind.Kind.TheVariants as kind

-- ---- literals among expanded trees

pub exponent_number : (e : Tree) → IsExpanded e → is_exponent e ≡ true → is_num e ≡ true
exponent_number e x h = grind arith

pub divisor_number : (d : Tree) → IsExpanded d → is_divisor d ≡ true → is_num d ≡ true
divisor_number d x h = grind arith

number_by : (b : Bool) (q : Fraction) → is_small (if b then Some q.num else None) ≡ true → q.num ≡ pos (natural_of (if b then Some q.num else None))
number_by b q h = grind arith

-- the numerator is the exponent
pub exponent_numerator : (e : Tree) (r : Rat) → e ≡ num (value_of r) → is_exponent e ≡ true → (ratio_of r).num ≡ pos (exponent_of e)
exponent_numerator e r s h = grind (arith, ratio_parts, number_by)

-- as the code reads it
pub exponent_bits : (e : Tree) (r : Rat) (z : ℤ) → FitsSigned w128 z → z ≡ (ratio_of r).num → e ≡ num (value_of r) → is_exponent e ≡ true → to_z w128 (of_z w128 z) ≡ pos (exponent_of e)
exponent_bits e r z f k s h = to_z-of_z w128 z f ∙ k ∙ exponent_numerator e r s h

pub exponent_most : (e : Tree) → is_exponent e ≡ true → exponent_of e ≤ 32
exponent_most e h = grind arith

pub divisor_nonzero : (d : Tree) (r : Rat) → d ≡ num (value_of r) → is_divisor d ≡ true → (ratio_of r).num ≢ pos 0
divisor_nonzero d r s h e = grind (arith, ratio_parts)

-- ---- nodes

pub power_node : (t : Tree) → kind.Pow ≡ root_kind t → t ≡ power (nth 0 (children_of t)) (nth 1 (children_of t))
power_node t k = grind arith

pub quotient_node : (t : Tree) → kind.Div ≡ root_kind t → t ≡ div (nth 0 (children_of t)) (nth 1 (children_of t))
quotient_node t k = grind arith

pub many_children : {t u : Tree} {n : ℕ} → t ≡ u → count (children_of u) ≡ n → count (children_of t) ≡ n
many_children e h = ap (λ (x : Tree). count (children_of x)) e ∙ h

pub second_expanded : (t : Tree) → AreExpanded (children_of t) → count (children_of t) ≡ 2 → IsExpanded (nth 1 (children_of t))
second_expanded t h e = expanded_nth 1 (children_of t) h (omega (arith, e))

-- a rational or a name is its own expanded tree
pub leaf_itself : (t : Tree) → has_polynomial_root t ≡ true → has_factors t ≡ false → has_parts t ≡ false → t ≡ expanded (polynomial_of t)
leaf_itself t h f p = grind (arith, constant_expanded, name_expanded)
