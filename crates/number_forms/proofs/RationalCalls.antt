-- Rationals in place of others.
use Rattle.number_forms.proofs.Shared.{arith, ◌≡◌, ℕ, ◌++◌, Result, false, if◌then◌else◌, refl, sym, ap, ◌∙◌, subst, [], Operation, operation_fits, result_of, fraction_power, value, Same, Surd}
use Rattle.number_forms.proofs.Shared.{surd_of, surd_times, surd_power, zero_is, number_test, zero_surd_of, surd_power-surd_of, Same-trans, Same-refl, Same-eq, Same-append, Same-surd_times}
use Rattle.number_forms.proofs.Shared.{Same-surd_power, joined_radicand, surd_times-terms, SharesPowers, SharesDenominators, IsNumberOver, IsPowerOver, AnswersRationals, NumberFault, Fraction, plus}
use Rattle.number_forms.proofs.Shared.{times, is_zero_fraction, calculated, value_of, Tree, num, State, operation_of, Overflow, IsPlainAnswer, IsPlainOverflow, by_test, both, operation, Joint}
use Rattle.number_forms.proofs.Shared.{Same-sym}
use Rattle.number_forms.specs.declared.calculating.Joint.TheVariants as joint

-- ---- what an operation answers

pub plain_answer : (op : Operation) (p q : Fraction) (t : Tree) → (operation_fits op p q ≡ false → ⊥) → t ≡ num (result_of op p q) → IsPlainAnswer (calculated op p q) t
plain_answer op p q t h e = grind arith

pub plain_overflow : (op : Operation) (p q : Fraction) (o : Overflow) → operation_fits op p q ≡ false → operation_of o.op ≡ op → value_of o.a ≡ p → value_of o.b ≡ q
    → IsPlainOverflow (calculated op p q) o
plain_overflow op p q o h x y z = grind arith

pub num_same : {p q : Fraction} → num p ≡ num q → p ≡ q
num_same e = cc

pub rational_value : (q : Fraction) → Same (value (num q)) (surd_of q)
rational_value q = by_test (λ b. is_zero_fraction q ≡ b → Same (if b then [] else surd_of q) (surd_of q)) (is_zero_fraction q) (λ e f. Same-sym (zero_surd_of q (zero_is q f))) (λ e f. Same-refl (surd_of q)) refl

-- the rational that an operation gives
pub rational_over : (x q : Fraction) (t : Tree) (v : Surd) → x ≡ q → t ≡ num x → Same (surd_of q) v → SharesDenominators v (value (num q)) → IsNumberOver v t
rational_over x q t v e f s p = subst (IsNumberOver v) (sym (f ∙ ap num e)) (record { number = number_test (num q) tt; worth = Same-trans (rational_value q) s; parts = p })

pub rational_power_over : (x q : Fraction) (t : Tree) (v : Surd) (n : ℕ) → x ≡ q → t ≡ num x → Same (surd_of q) (surd_power v n) → SharesPowers v n (value (num q)) → IsPowerOver v n t
rational_power_over x q t v n e f s p = subst (IsPowerOver v n) (sym (f ∙ ap num e)) (record { number = number_test (num q) tt; worth = Same-trans (rational_value q) s; parts = p })

pub rational_sum : (p q : Fraction) (a b : Tree) → a ≡ num p → b ≡ num q → Same (surd_of (plus p q)) (value a ++ value b)
rational_sum p q a b e f =
    let one : Same (value a ++ value b) (surd_of p ++ surd_of q) = Same-append (Same-trans (Same-eq (ap value e)) (rational_value p)) (Same-trans (Same-eq (ap value f)) (rational_value q)) in
    Same-sym (Same-trans one (joined_radicand p q 1))

pub rational_product : (p q : Fraction) (a b : Tree) → a ≡ num p → b ≡ num q → Same (surd_of (times p q)) (surd_times (value a) (value b))
rational_product p q a b e f =
    let one : Same (surd_times (value a) (value b)) (surd_times (surd_of p) (surd_of q)) =
    Same-surd_times (Same-trans (Same-eq (ap value e)) (rational_value p)) (Same-trans (Same-eq (ap value f)) (rational_value q)) in
    Same-sym (Same-trans one (Same-eq (surd_times-terms p q 1 1)))

pub rational_power : (p : Fraction) (n : ℕ) (a : Tree) → a ≡ num p → Same (surd_of (fraction_power p n)) (surd_power (value a) n)
rational_power p n a e = Same-sym (Same-trans (Same-surd_power n (Same-trans (Same-eq (ap value e)) (rational_value p))) (surd_power-surd_of p n))

pub at_rationals : (op : Operation) (p q x y : Fraction) (a b : Tree) (s : State) (r : Result ℕ NumberFault) → a ≡ num x → b ≡ num y → AnswersRationals (calculated op x y) s r
    → a ≡ num p → b ≡ num q → AnswersRationals (calculated op p q) s r
at_rationals op p q x y a b s r e f h k l = grind arith

-- ---- of a sum or a product

pub joint_rational : (j : Joint) (p q : Fraction) (a b : Tree) → a ≡ num p → b ≡ num q → Same (surd_of (result_of (operation j) p q)) (both j (value a) (value b))
joint_rational joint.Sum p q a b e f = rational_sum p q a b e f
joint_rational joint.Product p q a b e f = rational_product p q a b e f
