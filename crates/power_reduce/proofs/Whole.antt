-- Whole exponents, as the program tests them.
use Rattle.power_reduce.proofs.Shared.{and_true, arith, ◌≡◌, ◌≢◌, ◌<◌, ◌^◌, ℤ, pos, Bool, true, false, sym, ap, ◌∙◌, to_z, of_z, nat_eq, nat_abs, w128, eq-eqb, whole_fraction, int_is_one}
use Rattle.power_reduce.proofs.Shared.{is_number, is_reduced, is_num_one, is_whole_num, is_opaque_exponent, Tree, num, whole_numerator, whole_denominator, reduced_parts, parts_reduced, is_power}
use Rattle.power_reduce.proofs.{Shared.{exponent_in, told, nth, children_of}, ByRule.{transparent_whole}, Powers.{power_children}}
use Rattle.calc_terms.proofs.SmallLaws.{told_one as one_test}

-- ---- 1

pub one_bits : (z : ℤ) → nat_abs z < 2 ^ 127 → of_z w128 z ≡ 1 → z ≡ pos 1
one_bits z fits e = sym (told z fits) ∙ ap (to_z w128) e

pub no_one_bits : (z : ℤ) → (of_z w128 z ≡ 1 → ⊥) → z ≢ pos 1
no_one_bits z h e = h (ap (of_z w128) e)

whole_one : (z : ℤ) → is_num_one (num (whole_fraction z)) ≡ int_is_one z
whole_one z = rw (whole_numerator z, whole_denominator z) (and_true (int_is_one z))

-- whether a whole number is 1
pub is_one_as : (z : ℤ) (t : Tree) → nat_abs z < 2 ^ 127 → t ≡ num (whole_fraction z) → nat_eq (of_z w128 z) 1 ≡ is_num_one t
is_one_as z t fits e = one_test z fits ∙ sym (whole_one z) ∙ ap is_num_one (sym e)

-- ---- opaque exponents

pub whole_is : (z : ℤ) → is_whole_num (num (whole_fraction z)) ≡ true
whole_is z = eq-eqb (whole_fraction z).den 1 (whole_denominator z)

pub opaque_is : (e : Tree) → is_whole_num e ≡ false → is_opaque_exponent e ≡ is_number e
opaque_is e h = rw h (and_true (is_number e))

-- the exponent of a power, as it is read
pub first_is : (b t x : Tree) → t ≡ b → is_power b ≡ true → x ≡ nth 1 (children_of t) → x ≡ exponent_in b
first_is b t x e p h = h ∙ ap (λ (u : Tree). nth 1 (children_of u)) e ∙ ap (nth 1) (power_children b p)

pub first_reduced : (b : Tree) → is_power b ≡ true → is_reduced b ≡ true → is_reduced (exponent_in b) ≡ true
first_reduced b p h = grind (arith, parts_reduced, reduced_parts)

pub whole_first : (x f : Tree) (z : ℤ) → x ≡ f → x ≡ num (whole_fraction z) → false ≡ is_opaque_exponent f
whole_first x f z e k = sym (ap is_opaque_exponent (sym e ∙ k) ∙ transparent_whole (num (whole_fraction z)) (whole_is z))

pub other_first : (x f : Tree) (b : Bool) → x ≡ f → is_whole_num x ≡ false → b ≡ is_number x → b ≡ is_opaque_exponent f
other_first x f b e k h = h ∙ sym (opaque_is x k) ∙ ap is_opaque_exponent e
