-- Whole powers of Numbers that are no rationals.
use Rattle.power_reduce.proofs.Shared.{◌≡◌, ◌≢◌, ℕ, ◌≤◌, ◌≤ℤ◌, ◌<ℤ◌, ℤ, pos, negsuc, neg_ℤ, zero, suc, true, false, refl, sym, ap, ◌∙◌, subst, arith, nat_abs, ints, whole_fraction, zero_fraction}
use Rattle.power_reduce.proofs.Shared.{one_fraction, int_is_negative, is_number, classes, value, IsNumber, Inverts, Surd, surd_power, is_reduced, num_one, Tree, num, add, power, is_num, is_undef}
use Rattle.power_reduce.proofs.Shared.{whole_numerator, whole_denominator, number_words, power_of_number, power_of_inverse, IsNumberOf, IsInverseOf, AnswersInverse, IsPowerAnswer, has_no_power}
use Rattle.power_reduce.proofs.{Shared.{base_in, exponent_in, HasReducedSides, is_zero_or_one, keeps, without_root, Forest, Gives, Inverse}, Answered.{number_answer, zero_exponent_answer}}
use Rattle.power_reduce.proofs.{Answered.{one_exponent_answer, kept_answer}, ByRule.{has_power}, Kept.{wide_power}, Written.{number_power, few_classes, number_written}, Powers.{power_is}}
use Rattle.number_forms.proofs.Kept.{no_zero}
use Rattle.number_forms.specs.declared.inverting.Inverse.TheVariants as inverse

number_defined : (b : Tree) → IsNumber b → is_undef b ≡ false
number_defined b h = grind arith

-- a Number that is no rational has every power
pub irrational_power : (b e : Tree) → is_number b ≡ true → is_num b ≡ false → is_undef e ≡ false → has_no_power b e ≡ false
irrational_power b e n r u = has_power b e (number_defined b (number_words b n)) (no_zero b r) u

-- ---- the exponent 0

pub zero_answer : (b e : Tree) (z : ℤ) (t : Tree) → e ≡ num (whole_fraction z) → z ≡ pos 0 → has_no_power b e ≡ false → t ≡ num_one → IsPowerAnswer b e t
unfolding zero_fraction
zero_answer b e z t h k d u =
    let w : e ≡ num zero_fraction = h ∙ ap (λ x. num (whole_fraction x)) k in
    subst (λ (x : Tree). IsPowerAnswer b x t) (sym w) (subst (IsPowerAnswer b (num zero_fraction)) (sym u) (zero_exponent_answer b (ap (has_no_power b) (sym w) ∙ d)))

-- and 1
pub one_answer : (b e : Tree) (z : ℤ) (t : Tree) → e ≡ num (whole_fraction z) → z ≡ pos 1 → is_reduced b ≡ true → is_undef b ≡ false → has_no_power b e ≡ false → t ≡ b → IsPowerAnswer b e t
unfolding one_fraction
one_answer b e z t h k r u d v = grind (arith, one_exponent_answer)

-- ---- exponents above 0

above_answer : (b t : Tree) (z : ℤ) → pos 1 ≤ℤ z → z ≢ pos 1 → is_number b ≡ true → has_no_power b (num (whole_fraction z)) ≡ false → IsNumberOf (surd_power (value b) (nat_abs z)) t → IsPowerAnswer b (num (whole_fraction z)) t
above_answer b t (pos zero) l o n d h = absurd (omega (arith, ints))
above_answer b t (pos (suc m)) l o n d h =
    number_answer b (num (whole_fraction (pos (suc m)))) t h.number d (keeps (power_of_number b t m (number_words b n) (number_words t h.number) h.worth))
    (number_written b t (pos (suc m)) (number_power b (pos (suc m)) n refl) (λ e. cc) o)
above_answer b t (negsuc m) l o n d h = absurd (omega (arith, ints))

pub power_answer : (b e a t : Tree) (y z : ℤ) → e ≡ num (whole_fraction z) → pos 1 ≤ℤ z → z ≢ pos 1 → is_number b ≡ true → has_no_power b e ≡ false → a ≡ b → y ≡ z → IsNumberOf (surd_power (value a) (nat_abs y)) t → IsPowerAnswer b e t
power_answer b e a t y z k l o n d p q h =
    subst (λ (x : Tree). IsPowerAnswer b x t) (sym k)
    (above_answer b t z l o n (ap (has_no_power b) (sym k) ∙ d) (subst (λ (v : Surd). IsNumberOf v t) (λ i. surd_power (value (p i)) (nat_abs (q i))) h))

-- ---- exponents below 0

pub negative_is : (z : ℤ) → z <ℤ pos 0 → int_is_negative z ≡ true
negative_is z h = grind arith

negative_other : (z : ℤ) → z <ℤ pos 0 → is_zero_or_one (num (whole_fraction z)) ≡ false
negative_other z h = grind (arith, whole_numerator)

-- a Number of three classes or more is kept
pub wide_answer : (t : Tree) (z : ℤ) → HasReducedSides t → exponent_in t ≡ num (whole_fraction z) → z <ℤ pos 0 → 3 ≤ classes (base_in t) → has_no_power (base_in t) (exponent_in t) ≡ false → IsPowerAnswer (base_in t) (exponent_in t) t
wide_answer t z s e l c d =
    let w : is_reduced (power (base_in t) (num (whole_fraction z))) ≡ true = wide_power (base_in t) (whole_fraction z) s.base c (whole_denominator z) (ap int_is_negative (whole_numerator z) ∙ negative_is z l) in
    subst (IsPowerAnswer (base_in t) (exponent_in t)) (sym (power_is t s.power))
    (kept_answer (base_in t) (exponent_in t) (ap (λ (x : Tree). is_reduced (power (base_in t) x)) e ∙ w) d (ap is_zero_or_one e ∙ negative_other z l))

below_answer : (b t : Tree) (v : Surd) (z : ℤ) → z <ℤ pos 0 → classes b ≤ 2 → is_number b ≡ true → has_no_power b (num (whole_fraction z)) ≡ false → Inverts v (value b) → IsNumberOf (surd_power v (nat_abs (neg_ℤ z))) t → IsPowerAnswer b (num (whole_fraction z)) t
below_answer b t v (pos m) l c n d i h = absurd (omega (arith, ints))
below_answer b t v (negsuc m) l c n d i h =
    number_answer b (num (whole_fraction (negsuc m))) t h.number d (keeps (power_of_inverse b t v m (number_words b n) (number_words t h.number) i h.worth))
    (number_written b t (negsuc m) (number_power b (negsuc m) n (few_classes b (negsuc m) c)) (λ e. cc) (λ e. cc))

pub inverse_answer : (b e a t : Tree) (v : Surd) (y z : ℤ) → e ≡ num (whole_fraction z) → z <ℤ pos 0 → classes b ≤ 2 → is_number b ≡ true → has_no_power b e ≡ false → a ≡ b → y ≡ neg_ℤ z → Inverts v (value a) → IsNumberOf (surd_power v (nat_abs y)) t → IsPowerAnswer b e t
inverse_answer b e a t v y z k l c n d p q i h =
    subst (λ (x : Tree). IsPowerAnswer b x t) (sym k)
    (below_answer b t v z l c n (ap (has_no_power b) (sym k) ∙ d) (subst (λ (x : Tree). Inverts v (value x)) p i) (subst (λ (x : Surd). IsNumberOf x t) (λ j. surd_power v (nat_abs (q j))) h))

-- ---- the inverse

pub inverse_given : (i : ℕ) (a : Tree) (f g : Forest) (x : Inverse) (h : ℕ) → x ≡ inverse.Value h → AnswersInverse i a f g x → Gives (without_root i f) g h (IsInverseOf (value a))
inverse_given i a f g x h e k = (subst (AnswersInverse i a f g) e k).2

some_class : (t : Tree) → is_number t ≡ true → is_num t ≡ false → classes t ≡ 0 → ⊥
some_class (num q) n r e = cc
some_class (add ts) n r e = let l : 2 ≤ 0 = subst (λ k. 2 ≤ k) e (number_words (add ts) n).0 in omega arith
some_class t n r e = omega arith

pub has_inverse : (i : ℕ) (a b : Tree) (f g : Forest) (x : Inverse) → a ≡ b → is_number b ≡ true → is_num b ≡ false → classes b ≤ 2 → AnswersInverse i a f g x → ((h : ℕ) → x ≡ inverse.Value h → ⊥) → ⊥
has_inverse i a b f g x e n r l k h = grind (arith, some_class)
