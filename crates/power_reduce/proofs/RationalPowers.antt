-- Whole powers of rationals.
use Rattle.power_reduce.proofs.Shared.{◌≡◌, ◌≢◌, ℕ, ◌<◌, ◌^◌, ◌≤ℤ◌, ◌<ℤ◌, ℤ, pos, negsuc, neg_ℤ, ◌-ℤ◌, zero, suc, Bool, true, false, Result, refl, sym, ap, ◌∙◌, subst, arith, to_z, of_z, nat_abs}
use Rattle.power_reduce.proofs.Shared.{IfErr, ints, w128, IsErrAnd, Operation, pow_op, fraction_power, operation_fits, result_of, Fraction, lowest, whole_fraction, zero_fraction, one_fraction}
use Rattle.power_reduce.proofs.Shared.{inverse, is_zero_fraction, PlainValue, calculated, powered, exactly, undefined, overflow, plain_value, Rat, ratio_of, value_of, Ratio, whole, Tree}
use Rattle.power_reduce.proofs.Shared.{num, undef, power, whole_numerator, whole_denominator, zero_is, KeepsMeanings-eq, number_test, power_of_rational, negative_power_of_rational, power_zero_is_one}
use Rattle.power_reduce.proofs.Shared.{zero_to_nothing, State, plain_overflow, AnswersRationals, IsPowerAnswer, has_no_power, is_at_most_zero, IsWrittenPower, ratio_parts, told, Overflow}
use Rattle.power_reduce.proofs.{Shared.{IsPlainAnswer, IsPlainOverflow, keeps, NumberFault, by_test, operation_of, Pow, lt_z, le_z}, Answered.{number_answer, undefined_answer}}
use Rattle.power_reduce.proofs.Written.{zero_exponent, one_exponent, number_power, few_classes, rational_classes, first_power}
use Rattle.std.proofs.Common.{if◌then◌else◌}
use Rattle.calc_algebra.proofs.MeaningRewrites as rewrites
use Rattle.tree_handles.specs.declared.fault.NumberFault.TheVariants as fault

-- ---- signs, as the program tests them

pub above : (z : ℤ) → nat_abs z < 2 ^ 127 → lt_z (pos 0) (to_z w128 (of_z w128 z)) ≡ true → pos 1 ≤ℤ z
above z h k = grind arith

pub not_above : (z : ℤ) → nat_abs z < 2 ^ 127 → lt_z (pos 0) (to_z w128 (of_z w128 z)) ≡ false → z ≤ℤ pos 0
not_above z h k = grind arith

pub at_most : (z : ℤ) → nat_abs z < 2 ^ 127 → le_z (to_z w128 (of_z w128 z)) (pos 0) ≡ true → z ≤ℤ pos 0
at_most z h k = grind arith

pub not_at_most : (z : ℤ) → nat_abs z < 2 ^ 127 → le_z (to_z w128 (of_z w128 z)) (pos 0) ≡ false → pos 1 ≤ℤ z
not_at_most z h k = grind arith

pub zero_bits : (z : ℤ) → nat_abs z < 2 ^ 127 → of_z w128 z ≡ 0 → z ≡ pos 0
zero_bits z fits e = sym (told z fits) ∙ ap (to_z w128) e

pub no_zero_bits : (z : ℤ) → (of_z w128 z ≡ 0 → ⊥) → z ≢ pos 0
no_zero_bits z h e = h (ap (of_z w128) e)

-- below 0, where it is neither above 0 nor 0
pub below : (z : ℤ) → z ≤ℤ pos 0 → z ≢ pos 0 → z <ℤ pos 0
below z h k = grind arith

-- above 0, where it is neither below 0 nor 0
pub not_below : (z : ℤ) → nat_abs z < 2 ^ 127 → lt_z (to_z w128 (of_z w128 z)) (pos 0) ≡ false → z ≢ pos 0 → pos 1 ≤ℤ z
not_below z h k l = grind arith

-- the negative of an exponent below 0, as the program hands it on
pub opposite : (z : ℤ) → nat_abs z < 2 ^ 127 → z <ℤ pos 0 → to_z w128 (of_z w128 (pos 0 -ℤ to_z w128 (of_z w128 z))) ≡ neg_ℤ z
opposite z h k = grind arith

pub opposite_above : (z : ℤ) → z <ℤ pos 0 → pos 1 ≤ℤ neg_ℤ z
opposite_above z h = grind arith

-- ---- plain values

pub powered_above : (q : Fraction) (z : ℤ) → pos 1 ≤ℤ z → powered q z 1 ≡ calculated pow_op q (whole_fraction z)
powered_above q z h = grind arith

pub powered_below : (q : Fraction) (z : ℤ) → z <ℤ pos 0 → is_zero_fraction q ≡ false → powered q z 1 ≡ calculated pow_op (inverse q) (whole_fraction (neg_ℤ z))
powered_below q z h k = grind arith

pub powered_zero : (q : Fraction) (z : ℤ) → z ≡ pos 0 → is_zero_fraction q ≡ false → powered q z 1 ≡ exactly one_fraction
powered_zero q z e k = ap (λ x. powered q x 1) e ∙ rw k refl

pub powered_undefined : (q : Fraction) (z : ℤ) → z ≤ℤ pos 0 → is_zero_fraction q ≡ true → powered q z 1 ≡ undefined
powered_undefined q z h k = grind arith

pub calculated_is : (op : Operation) (p q r : Fraction) → (operation_fits op p q ≡ false → ⊥) → r ≡ result_of op p q → calculated op p q ≡ exactly r
calculated_is op p q r h e = by_test (λ b. operation_fits op p q ≡ b → (if b then exactly (result_of op p q) else overflow op p q) ≡ exactly r) (operation_fits op p q) (λ x y. ap exactly (sym e)) (λ x y. absurd (h y)) refl

pub calculated_exactly : (op : Operation) (p q r : Fraction) → calculated op p q ≡ exactly r → r ≡ result_of op p q
calculated_exactly op p q r e = by_test (λ b. (if b then exactly (result_of op p q) else overflow op p q) ≡ exactly r → r ≡ result_of op p q) (operation_fits op p q) (λ x y. cc) (λ x y. cc) e

-- the value of a power of rationals
pub plain_power : (t b e : Tree) (q : Fraction) (z : ℤ) → t ≡ power b e → b ≡ num q → e ≡ num (whole_fraction z) → plain_value t ≡ powered q z 1
plain_power t b e q z h k l = ap plain_value (h ∙ (λ i. power (k i) (l i))) ∙ (λ i. powered q (whole_numerator z i) (whole_denominator z i))

-- what is not 0, since no power of 0 has an exponent of at most 0
pub not_zero : (q : Fraction) (z : ℤ) → (is_zero_fraction q ≡ true → pos 1 ≤ℤ z) → z ≤ℤ pos 0 → is_zero_fraction q ≡ false
not_zero q z h l = grind arith

-- a power that fits, and one that doesn't, in the words of the call
pub fitting_power : (q r : Fraction) (y z : ℤ) → y ≡ z → (operation_fits pow_op q (whole_fraction y) ≡ false → ⊥) → r ≡ fraction_power q (nat_abs y) → calculated pow_op q (whole_fraction z) ≡ exactly r
fitting_power q r y z e h k = calculated_is pow_op q (whole_fraction z) r (λ f. h (ap (λ x. operation_fits pow_op q (whole_fraction x)) e ∙ f)) (k ∙ ap (λ x. fraction_power q (nat_abs x)) (e ∙ sym (whole_numerator z)))

pub unfit_power : (q : Fraction) (y z : ℤ) (o : Overflow) → y ≡ z → operation_fits pow_op q (whole_fraction y) ≡ false → o.op ≡ Pow → value_of o.a ≡ q → ratio_of o.b ≡ whole y → IsPlainOverflow (calculated pow_op q (whole_fraction z)) o
unfit_power q y z o e h op a b = plain_overflow pow_op q (whole_fraction z) o (ap (λ x. operation_fits pow_op q (whole_fraction x)) (sym e) ∙ h) (ap operation_of op) a (ap (λ (x : Ratio). lowest x.num x.den) b ∙ ap (λ x. whole_fraction x) e)

-- the same of a rational that is another
pub fitting_power_of : (p q r : Fraction) (y z : ℤ) → p ≡ q → y ≡ z → (operation_fits pow_op p (whole_fraction y) ≡ false → ⊥) → r ≡ fraction_power p (nat_abs y) → calculated pow_op q (whole_fraction z) ≡ exactly r
fitting_power_of p q r y z e k h l = ap (λ x. calculated pow_op x (whole_fraction z)) (sym e) ∙ fitting_power p r y z k h l

pub unfit_power_of : (p q : Fraction) (y z : ℤ) (o : Overflow) → p ≡ q → y ≡ z → operation_fits pow_op p (whole_fraction y) ≡ false → o.op ≡ Pow → value_of o.a ≡ p → ratio_of o.b ≡ whole y → IsPlainOverflow (calculated pow_op q (whole_fraction z)) o
unfit_power_of p q y z o e k h op a b = subst (λ (x : Fraction). IsPlainOverflow (calculated pow_op x (whole_fraction z)) o) e (unfit_power p y z o k h op a b)

pub if_err : {A E : Type 0} (r : Result A E) (o : E) (P : E → Type 0) → IsErrAnd r (λ e. e ≡ o) → P o → IfErr r P
if_err r o P h k = grind arith

pub no_zero_rational : (q : Rat) (n : ℤ) → n ≡ (ratio_of q).num → (of_z w128 n ≡ 0 → ⊥) → is_zero_fraction (value_of q) ≡ true → ⊥
no_zero_rational q n e h k = grind (arith, ratio_parts)

-- ---- answers

at_most_zero : (z : ℤ) → z ≤ℤ pos 0 → is_at_most_zero (num (whole_fraction z)) ≡ true
at_most_zero z h = grind (arith, whole_numerator, whole_denominator)

above_zero : (z : ℤ) → pos 1 ≤ℤ z → is_at_most_zero (num (whole_fraction z)) ≡ false
above_zero z h = grind (arith, whole_numerator)

-- 0 to a whole exponent of at most 0 is Undef
zero_to_whole : (z : ℤ) → z ≤ℤ pos 0 → rewrites.KeepsMeanings (power (num zero_fraction) (num (whole_fraction z))) undef
zero_to_whole (pos zero) h = zero_to_nothing (num zero_fraction) 0 (KeepsMeanings-eq refl)
zero_to_whole (pos (suc n)) h = absurd (omega (arith, ints))
zero_to_whole (negsuc n) h = zero_to_nothing (num zero_fraction) (suc n) (KeepsMeanings-eq refl)

pub nothing_answer : (b e : Tree) (q : Fraction) (z : ℤ) (t : Tree) → b ≡ num q → e ≡ num (whole_fraction z) → is_zero_fraction q ≡ true → z ≤ℤ pos 0 → t ≡ undef → IsPowerAnswer b e t
nothing_answer b e q z t h k o l u =
    subst (λ (x : Tree). IsPowerAnswer x e t) (sym h) (subst (λ (x : Tree). IsPowerAnswer (num q) x t) (sym k) (subst (IsPowerAnswer (num q) (num (whole_fraction z))) (sym u)
    (undefined_answer (num q) (num (whole_fraction z)) (rw (o, at_most_zero z l) refl)
    (keeps (subst (λ (x : Fraction). rewrites.KeepsMeanings (power (num x) (num (whole_fraction z))) undef) (sym (zero_is q o)) (zero_to_whole z l))))))

has_power : (q : Fraction) (z : ℤ) → (is_zero_fraction q ≡ true → pos 1 ≤ℤ z) → has_no_power (num q) (num (whole_fraction z)) ≡ false
has_power q z h = grind (arith, by_test, above_zero)

value_keeps : (q : Fraction) (z : ℤ) (r : Fraction) → (is_zero_fraction q ≡ true → pos 1 ≤ℤ z) → powered q z 1 ≡ exactly r → rewrites.KeepsMeanings (power (num q) (num (whole_fraction z))) (num r)
unfolding zero_fraction
value_keeps q z r h e = grind (arith, power_zero_is_one, whole_numerator, power_of_rational, negative_power_of_rational)

-- the powers 0 and 1 of a rational are 1 and the rational
value_written : (q : Fraction) (z : ℤ) (r : Fraction) → powered q z 1 ≡ exactly r → IsWrittenPower (num q) (num (whole_fraction z)) (num r)
value_written q z r v = record {
  zero = λ e. ap num (zero_value (zero_exponent e));
  one = λ e. ap num (one_value (one_exponent e));
  kept = λ h. absurd (cc (number_power (num q) z (number_test (num q) tt) (few_classes (num q) z (rational_classes q)), h.no_number));
}
  where
    undefined_or_one : (b : Bool) → (if b then undefined else exactly one_fraction) ≡ exactly r → r ≡ one_fraction
    undefined_or_one true e = cc
    undefined_or_one false e = cc

    zero_value : z ≡ pos 0 → r ≡ one_fraction
    zero_value e = undefined_or_one (is_zero_fraction q) (sym (ap (λ x. powered q x 1) e) ∙ v)

    one_value : z ≡ pos 1 → r ≡ q
    one_value e = calculated_exactly pow_op q (whole_fraction (pos 1)) r (sym (ap (λ x. powered q x 1) e) ∙ v) ∙ ap (λ x. fraction_power q (nat_abs x)) (whole_numerator (pos 1)) ∙ first_power q

-- and any other power is a rational
pub value_answer : (b e : Tree) (q : Fraction) (z : ℤ) (t : Tree) (r : Fraction) → b ≡ num q → e ≡ num (whole_fraction z) → (is_zero_fraction q ≡ true → pos 1 ≤ℤ z) → powered q z 1 ≡ exactly r → t ≡ num r → IsPowerAnswer b e t
value_answer b e q z t r h k o v u =
    subst (λ (x : Tree). IsPowerAnswer x e t) (sym h) (subst (λ (x : Tree). IsPowerAnswer (num q) x t) (sym k) (subst (IsPowerAnswer (num q) (num (whole_fraction z))) (sym u)
    (number_answer (num q) (num (whole_fraction z)) (num r) (number_test (num r) tt) (has_power q z o) (keeps (value_keeps q z r o v)) (value_written q z r v))))

-- ---- in other words

pub plain_as : (v w : PlainValue) (t : Tree) → v ≡ w → IsPlainAnswer w t → IsPlainAnswer v t
plain_as v w t e h = subst (λ (x : PlainValue). IsPlainAnswer x t) (sym e) h

pub rationals_as : (v w : PlainValue) (s : State) (r : Result ℕ NumberFault) → v ≡ w → AnswersRationals w s r → AnswersRationals v s r
rationals_as v w s r e h = subst (λ (x : PlainValue). AnswersRationals x s r) (sym e) h

-- ---- refusals

pub overflow_answer : (v : PlainValue) (s : State) (r : Result ℕ NumberFault) (o : Overflow) → IsErrAnd r (λ e. e ≡ fault.Overflow o) → IsPlainOverflow v o → AnswersRationals v s r
overflow_answer v s r o e k = grind arith
