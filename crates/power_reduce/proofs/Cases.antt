-- Which powers no rule rewrites, by what the program tests.
use Rattle.power_reduce.proofs.Shared.{and_false, and_true, ◌≡◌, ◌≢◌, ℕ, ◌<◌, ◌^◌, ℤ, pos, Bool, true, false, ◌&&◌, ◌||◌, Some, None, Result, Err, ◌⊎◌, inl, inr, refl, sym, ap, ◌∙◌, subst, arith}
use Rattle.power_reduce.proofs.Shared.{to_z, of_z, FitsSigned, nat_abs, int_rem, and_parts, rem_is, fits_signed_from_abs, w128, IsErrAnd, Fraction, whole_fraction, zero_fraction, is_zero_fraction}
use Rattle.power_reduce.proofs.Shared.{int_is_zero, int_is_one, int_is_even, is_number, PlainValue, plain_value, nothing, is_half_num, is_whole_num, is_opaque_exponent, Tree, num, undef, mult, power}
use Rattle.power_reduce.proofs.Shared.{root, root_kind, is_num, is_undef, is_root, whole_numerator, whole_denominator, zero_is, number_test, number_words, State, AnswersRationals, is_zero, is_power}
use Rattle.power_reduce.proofs.Shared.{base_in, exponent_in, is_at_most_zero, has_no_power, IsPowerAnswer, HasReducedSides, goes_inside, is_zero_or_one, is_even_whole, half, parts_of, raised}
use Rattle.power_reduce.proofs.Shared.{rewritten, rewritten_whole, numerator, Rewrites, Gives, AnswersRationalStep, Step, NumberFault, Forest, gives_as, by_test, half_is_odd, undef_words, num_same}
use Rattle.power_reduce.proofs.{Answered.{kept_answer, undef_base_answer, undef_exponent_answer}, ByRule.{has_power}, Exponents.{as_whole, inside_whole, whole_no_half}}
use Rattle.power_reduce.proofs.{Kept.{reduced_power, kept_form, whole_inside}, Powers.{power_is}, Rules.{rewriting}, Whole.{whole_is}}
use Rattle.std.proofs.Common.{if◌then◌else◌}
use Rattle.std.specs.Prelude.{◌==◌}
use Rattle.calc_terms.proofs.Names.{not_true as from_not}
pub use Rattle.number_forms.proofs.Pairs.{rational_test as rational_number}
use Rattle.calc_terms.specs.declared.kind.Kind.TheVariants as kind

-- ---- tests

-- ---- kinds

pub power_kind : (t : Tree) → kind.Pow ≡ root_kind t → is_power t ≡ true
power_kind t h = grind arith

pub no_rational : {A : Type 0} (t : Tree) → is_num t ≡ true → is_num t ≡ false → A
no_rational t h k = absurd cc

pub no_num_kind : (t : Tree) → (kind.Num ≡ root_kind t → ⊥) → is_num t ≡ false
no_num_kind t h = grind arith

-- ---- what goes inside

pub inside_other : (e : Tree) → goes_inside e ≡ true → is_zero_or_one e ≡ false
inside_other e h = from_not _ (and_parts _ _ h).1

zero_is_whole : (q : Fraction) → is_zero_fraction q ≡ true → (q.den == 1) ≡ true
unfolding zero_fraction
zero_is_whole q h = grind (arith, zero_is, whole_denominator)

pub broken_other : (e : Tree) → is_whole_num e ≡ false → is_zero_or_one e ≡ false
broken_other e h = grind (arith, zero_is_whole)

pub no_number : (b e : Tree) → is_number b ≡ false → (is_number b && is_whole_num e) ≡ false
no_number b e h = rw h refl

-- ---- whole exponents

one_or_zero : (z : ℤ) → z ≢ pos 0 → z ≢ pos 1 → (int_is_zero z || int_is_one z) ≡ false
one_or_zero z a b = grind arith

whole_other : (z : ℤ) → z ≢ pos 0 → z ≢ pos 1 → is_zero_or_one (num (whole_fraction z)) ≡ false
whole_other z a b = rw (whole_numerator z, whole_denominator z) (ap (λ (x : Bool). int_is_zero z || x) (and_true (int_is_one z)) ∙ one_or_zero z a b)

pub whole_goes_inside : (e : Tree) (z : ℤ) → e ≡ num (whole_fraction z) → z ≢ pos 0 → z ≢ pos 1 → goes_inside e ≡ true
whole_goes_inside e z h a b = ap goes_inside h ∙ whole_inside (whole_fraction z) (whole_denominator z) (whole_other z a b)

two_fits : FitsSigned w128 (pos 2)
two_fits = fits_signed_from_abs w128 (pos 2) (omega arith)

remainder : (z : ℤ) → nat_abs z < 2 ^ 127 → to_z w128 (of_z w128 (int_rem (to_z w128 (of_z w128 z)) (to_z w128 (of_z w128 (pos 2))))) ≡ int_rem z (pos 2)
remainder z fits = rem_is w128 z (pos 2) (fits_signed_from_abs w128 z fits) two_fits

even_rem : (z : ℤ) → int_rem z (pos 2) ≡ pos 0 → int_is_even z ≡ true
even_rem z h = grind arith

rem_even : (z : ℤ) → int_is_even z ≡ true → int_rem z (pos 2) ≡ pos 0
rem_even z h = grind arith

pub even_bits : (z : ℤ) → nat_abs z < 2 ^ 127 → of_z w128 (int_rem (to_z w128 (of_z w128 z)) (to_z w128 (of_z w128 (pos 2)))) ≡ 0 → int_is_even z ≡ true
even_bits z fits h = even_rem z (sym (remainder z fits) ∙ ap (to_z w128) h)

pub odd_bits : (z : ℤ) → nat_abs z < 2 ^ 127 → (of_z w128 (int_rem (to_z w128 (of_z w128 z)) (to_z w128 (of_z w128 (pos 2)))) ≡ 0 → ⊥) → int_is_even z ≡ false
odd_bits z h k = grind (arith, by_test, rem_even)

no_zero : (z : ℤ) → z ≢ pos 0 → int_is_zero z ≡ false
no_zero z h = grind arith

pub even_whole : (z : ℤ) → int_is_even z ≡ true → z ≢ pos 0 → is_even_whole (whole_fraction z) ≡ true
even_whole z h k = rw (whole_numerator z, whole_denominator z, h, no_zero z k) refl

odd_whole : (z : ℤ) → int_is_even z ≡ false → is_even_whole (whole_fraction z) ≡ false
odd_whole z h = rw (whole_numerator z, whole_denominator z, h) refl

-- ---- powers that no rule rewrites

-- an exponent that does not go inside, and is no even whole number
outside_kept : (b e : Tree) → goes_inside e ≡ false → ((q : Fraction) → e ≡ num q → is_even_whole q ≡ false) → rewritten_whole b e ≡ None
outside_kept b e h k = grind arith

pub undef_exponent_kept : (b e : Tree) → is_undef e ≡ true → rewritten b e ≡ None
undef_exponent_kept b e h = grind (arith, outside_kept)

pub undef_base_kept : (b e : Tree) → is_undef b ≡ true → rewritten b e ≡ None
undef_base_kept b e h = grind arith

-- the exponents 0 and 1
whole_exponent_no_half : (e : Tree) (z : ℤ) → e ≡ num (whole_fraction z) → is_half_num e ≡ false
whole_exponent_no_half e z w = whole_no_half e (ap is_whole_num w ∙ whole_is z)

pub zero_kept : (b e : Tree) (z : ℤ) → e ≡ num (whole_fraction z) → z ≡ pos 0 → rewritten b e ≡ None
unfolding is_number
zero_kept b e z h k = grind (arith, as_whole, outside_kept, whole_numerator, and_false, num_same, whole_denominator)

pub one_kept : (b e : Tree) (z : ℤ) → e ≡ num (whole_fraction z) → z ≡ pos 1 → rewritten b e ≡ None
unfolding is_number
one_kept b e z h k = grind (arith, as_whole, outside_kept, whole_numerator, whole_denominator, num_same)

-- a Number
whole_number_kept : (b e : Tree) → is_number b ≡ true → rewritten_whole b e ≡ None
whole_number_kept (root a) (num q) h = rw h (ap (λ (x : Bool). if x then Some (power a (num (whole_fraction (half q.num)))) else None) (and_false (is_even_whole q)))
whole_number_kept (mult ts) e h = rw h (ap (λ (x : Bool). if x then Some (mult (raised (parts_of ts) e)) else None) (and_false (goes_inside e)))
whole_number_kept (power c f) e h = absurd (number_words (power c f) h)
whole_number_kept (root a) _ h = refl
whole_number_kept _ e h = refl

pub number_kept : (b e : Tree) → is_number b ≡ true → is_whole_num e ≡ true → rewritten b e ≡ None
number_kept b e n w = as_whole b e (whole_no_half e w) ∙ whole_number_kept b e n

-- an opaque power
pub sealed_kept : (b e : Tree) → is_power b ≡ true → goes_inside e ≡ true → is_opaque_exponent (exponent_in b) ≡ true → rewritten b e ≡ None
sealed_kept b e p i h = grind (arith, as_whole, whole_no_half, inside_whole, and_false)

-- any other base
whole_other_kept : (b e : Tree) → (kind.Pow ≡ root_kind b → ⊥) → (kind.Mult ≡ root_kind b → ⊥) → (is_root b ≡ true → rewritten_whole b e ≡ None) → rewritten_whole b e ≡ None
whole_other_kept b e p m r = grind arith

pub other_kept : (b e : Tree) → goes_inside e ≡ true → (kind.Pow ≡ root_kind b → ⊥) → (kind.Mult ≡ root_kind b → ⊥) → (is_root b ≡ true → rewritten b e ≡ None) → rewritten b e ≡ None
other_kept b e i p m r = let h = as_whole b e (whole_no_half e (inside_whole e i)) in h ∙ whole_other_kept b e p m (λ k. sym h ∙ r k)

-- an odd power of a root
root_kept : (b e : Tree) → is_root b ≡ true → ((q : Fraction) → e ≡ num q → is_even_whole q ≡ false) → rewritten_whole b e ≡ None
root_kept b e r k = grind arith

pub odd_root_kept : (b e : Tree) (z : ℤ) → is_root b ≡ true → e ≡ num (whole_fraction z) → int_is_even z ≡ false → rewritten b e ≡ None
odd_root_kept b e z r h k = as_whole b e (whole_exponent_no_half e z h) ∙ root_kept b e r (λ q l. ap is_even_whole (num_same (sym l ∙ h)) ∙ odd_whole z k)

-- an odd power of a reduced root
pub root_once : (r e : Tree) → is_half_num e ≡ true → (is_undef r || is_number r || is_root r) ≡ true → rewritten r (num (whole_fraction (numerator e))) ≡ None
root_once r e h k = grind (arith, whole_is, number_kept, odd_root_kept, half_is_odd)

-- ---- the base and the exponent of a power of another base

no_zero_base : (b : Tree) → is_number b ≡ false → is_zero b ≡ false
unfolding is_number
no_zero_base b h = grind arith

pub other_power : (b e : Tree) → is_undef b ≡ false → is_undef e ≡ false → is_number b ≡ false → has_no_power b e ≡ false
other_power b e u v n = has_power b e u (no_zero_base b n) v

-- ---- their answers

no_zero_power : (b e : Tree) → (is_number b && is_whole_num e) ≡ false → (is_zero b && is_at_most_zero e) ≡ false
no_zero_power b e h = grind (arith, number_test)

pub kept_power_answer : (t : Tree) → HasReducedSides t → is_zero_or_one (exponent_in t) ≡ false → (is_number (base_in t) && is_whole_num (exponent_in t)) ≡ false → rewritten (base_in t) (exponent_in t) ≡ None
    → IsPowerAnswer (base_in t) (exponent_in t) t
kept_power_answer t s z n r =
    let b = base_in t in
    let e = exponent_in t in
    let form = reduced_power b e s.base s.exponent s.base_defined s.exponent_defined (kept_form b e s.base_defined z n r) in
    subst (IsPowerAnswer b e) (sym (power_is t s.power)) (kept_answer b e form (rw (s.base_defined, s.exponent_defined) (no_zero_power b e n)) z)

-- ---- one rewriting

pub again : {others f : Forest} {h : ℕ} (t : Tree) → is_power t ≡ true → Gives others f h (λ u. rewritten (base_in t) (exponent_in t) ≡ Some u) → Gives others f h (λ u. (rewritten (base_in t) (exponent_in t) ≡ Some u) × Rewrites t u)
again t p g = gives_as g refl (λ u w. (w, subst (λ (x : Tree). Rewrites x u) (sym (power_is t p)) (rewriting (base_in t) (exponent_in t) u w)))

-- ---- rationals

pub no_plain_value : (b e : Tree) → is_num b ≡ true → is_num e ≡ true → is_whole_num e ≡ false → plain_value (power b e) ≡ nothing
no_plain_value b e h k w = grind arith

-- a refusal, of a step
pub step_fault : (v : PlainValue) (s : State) (x : NumberFault) (r : Result Step NumberFault) → IsErrAnd r (λ e. e ≡ x) → AnswersRationals v s (Err x) → AnswersRationalStep v s r
step_fault v s x r h k = grind arith

-- ---- Undef

-- a side is Undef
pub HasUndef : Tree → Tree → Type 0
HasUndef b e = (is_undef b ≡ true) ⊎ (is_undef e ≡ true)

pub undef_base : (b e : Tree) → is_undef b ≡ true → HasUndef b e
unfolding HasUndef
undef_base b e h = inl h

pub undef_exponent : (b e : Tree) → is_undef e ≡ true → HasUndef b e
unfolding HasUndef
undef_exponent b e h = inr h

pub undef_kept : (b e : Tree) → HasUndef b e → rewritten b e ≡ None
unfolding HasUndef
undef_kept b e h = grind (arith, undef_base_kept, undef_exponent_kept)

pub undef_answer : (b e t : Tree) → HasUndef b e → t ≡ undef → IsPowerAnswer b e t
unfolding HasUndef
undef_answer b e t (inl h) u = rw (u, undef_words b h) (undef_base_answer e)
undef_answer b e t (inr h) u = rw (u, undef_words e h) (undef_exponent_answer b)

no_rational_undef : (t : Tree) → is_num t ≡ true → is_undef t ≡ true → ⊥
no_rational_undef t h k = grind arith

pub defined_rationals : {A : Type 0} (b e : Tree) → HasUndef b e → is_num b ≡ true → is_num e ≡ true → A
unfolding HasUndef
defined_rationals b e h n m = grind (arith, no_rational_undef)
