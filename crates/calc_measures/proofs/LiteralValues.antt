-- Exponents that are written as a whole number or as half of an odd one are worth that number.
use Rattle.calc_measures.proofs.Shared.{◌≡◌, ℕ, ℤ, pos, neg_ℤ, ◌*ℤ◌, [], Bool, true, false, ◌&&◌, ◌==◌, not, if◌then◌else◌, Option, Some, None, refl, sym, ap, ◌∙◌, subst, arith, and_parts, eqb-true}
use Rattle.calc_measures.proofs.Shared.{not-true, ints, half_of, half_of_is, is_half_num, whole_literal, half_literal, half_value, half_quotient, int_is_two, is_half_literal, is_some, opposite}
use Rattle.calc_measures.proofs.Shared.{IsPlainAnswer, PlainValue, exactly, overflow, calculated, plain_value, divided, gather, values, on_one, mul_op, result_of, operation_fits, Fraction, lowest}
use Rattle.calc_measures.proofs.Shared.{times, negative, inverse, inverse_of, whole_fraction, lowest_parts, times_lowest, int_is_even, Tree, num, neg, div, negative_parts}

chosen : (b : Bool) (m n : ℤ) → (if b then Some m else None) ≡ Some n → (b ≡ true) × (m ≡ n)
chosen b m n h = grind arith

turned : (o : Option ℤ) (n : ℤ) → opposite o ≡ Some n → (m : ℤ) × (o ≡ Some m) × (neg_ℤ m ≡ n)
turned o n h = grind arith

-- ---- whole numbers

pub whole_of : (q : Fraction) → (q.den == 1) ≡ true → q ≡ whole_fraction q.num
whole_of q h = lowest_parts q ∙ ap (lowest q.num) (eqb-true q.den 1 h)

pub whole_answer : (e f : Tree) (n : ℤ) → whole_literal e ≡ Some n → IsPlainAnswer (plain_value e) f → f ≡ num (whole_fraction n)
whole_answer e f n h k = grind (arith, chosen, whole_of, turned, negative_parts, eqb-true)

-- ---- halves

-- v is n/2, or it overflows
abbrev IsHalfOf : ℤ → PlainValue → Type 0
IsHalfOf n (exactly q) = ((q.den == 2) ≡ true) × (q.num ≡ n)
IsHalfOf n (overflow op a b) = Unit {0}
IsHalfOf n v = ⊥

pub one_times : (z : ℤ) → z *ℤ pos 1 ≡ z
one_times z = omega (arith, ints)

odd_half : (n d : Fraction) → n.den ≡ 1 → (o : int_is_even n.num ≡ false) → d.num ≡ pos 2 → d.den ≡ 1 → times n (inverse d) ≡ half_of n.num o
odd_half n d e o f g =
    let i : inverse d ≡ lowest (pos 1) 2 = ap (λ (z : ℤ). inverse_of z d.den) f ∙ ap (λ (m : ℕ). inverse_of (pos 2) m) g in
    let w : n ≡ lowest n.num 1 = lowest_parts n ∙ ap (lowest n.num) e in
    (λ z. times (w z) (i z)) ∙ times_lowest n.num (pos 1) 1 2 (omega arith) (omega arith) ∙ ap (λ (z : ℤ). lowest z 2) (one_times n.num) ∙ sym (half_of_is n.num o)

half_words : (q : Fraction) (n : ℤ) (o : int_is_even n ≡ false) → q ≡ half_of n o → IsHalfOf n (exactly q)
half_words q n o e = (ap (λ (x : Fraction). x.den == 2) e, ap (λ (x : Fraction). x.num) e)

calculated_half : (n d : Fraction) → n.den ≡ 1 → int_is_even n.num ≡ false → d.num ≡ pos 2 → d.den ≡ 1 → IsHalfOf n.num (calculated mul_op n (inverse d))
calculated_half n d e o f g = by (operation_fits mul_op n (inverse d))
  where
    by : (b : Bool) → IsHalfOf n.num (if b then exactly (result_of mul_op n (inverse d)) else overflow mul_op n (inverse d))
    by true = half_words (result_of mul_op n (inverse d)) n.num o (odd_half n d e o f g)
    by false = tt

quotient_half : (n d : Fraction) → ((n.den == 1) && not (int_is_even n.num) && int_is_two d.num && (d.den == 1)) ≡ true → IsHalfOf n.num (divided n d)
quotient_half n d h = grind (arith, and_parts, calculated_half, eqb-true, not-true)

negative_half : (q : Fraction) (n : ℤ) → IsHalfOf n (exactly q) → IsHalfOf (neg_ℤ n) (exactly (negative q))
negative_half q n h = let p = negative_parts q q.num q.den refl refl in (ap (λ (m : ℕ). m == 2) p.den ∙ h.0, p.num ∙ ap neg_ℤ h.1)

negated_half : (n : ℤ) (v : PlainValue) → IsHalfOf n v → IsHalfOf (neg_ℤ n) (on_one (λ q. exactly (negative q)) (gather v (values [])))
negated_half n v h = grind (arith, negative_half)

half_value_is : (e : Tree) (n : ℤ) → half_literal e ≡ Some n → IsHalfOf n (plain_value e)
half_value_is e n h = grind (arith, chosen, divided, quotient_half, turned, negative_half, plain_value, negated_half)

answer_half : (n : ℤ) (v : PlainValue) (r : Tree) → IsHalfOf n v → IsPlainAnswer v r → (q : Fraction) × (r ≡ num q) × (is_half_num (num q) ≡ true) × (q.num ≡ n)
answer_half n (exactly q) r h a = (q, a, h.0, h.1)
answer_half n (overflow op x y) r h a = absurd a
answer_half n v r h a = absurd h

pub half_literal_answer : (e f : Tree) (n : ℤ) → half_literal e ≡ Some n → IsPlainAnswer (plain_value e) f → (q : Fraction) × (f ≡ num q) × (is_half_num (num q) ≡ true) × (q.num ≡ n)
half_literal_answer e f n h a = answer_half n (plain_value e) f (half_value_is e n h) a

literal_is : (o : Option ℤ) → is_some o ≡ true → (n : ℤ) × (o ≡ Some n)
literal_is o h = grind arith

pub half_answer : (e f : Tree) → is_half_literal e ≡ true → IsPlainAnswer (plain_value e) f → is_half_num f ≡ true
half_answer e f h a = let (n, i) = literal_is (half_literal e) h in let (q, is, half, same) = half_literal_answer e f n i a in ap is_half_num is ∙ half
