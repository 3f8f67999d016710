-- What nodes over rationals reduce to, where their values fit.
use Rattle.deep_reduce.proofs.Shared.{◌≡◌, ◌≢◌, ◌<◌, ◌↔◌, Bool, Option, Some, None, Result, ◌+◌, ◌≤◌, ◌++◌, ℕ, ℤ, negsuc, true, false, not, refl, sym, ap, ◌∙◌, subst, arith, mul-le, result_ok}
use Rattle.deep_reduce.proofs.Shared.{ratio_parts, parts_fit, Rat, Operation, operation_fits, result_of, one_times, times_comm, plus, times, Fraction, HasNodesFor, simple_room, Overflow, ratio_of}
use Rattle.deep_reduce.proofs.Shared.{children_of, root_kind, count, nth, value_of, Tree, num, add, mult, power, neg, sub, div, Trees, none, more, value, Surd, negative, inverse, minus_one_fraction}
use Rattle.deep_reduce.proofs.Shared.{one_fraction, zero_fraction, whole_fraction, is_zero_fraction, fraction_fits, add_op, mul_op, calculated, exactly, plain_value, powered, PlainValue}
use Rattle.deep_reduce.proofs.Shared.{IsPlainAnswer, IsNodeAnswer, lacks_power, HoldsNode, HoldsPower, AreFactorsHeld, is_half_num, whole_no_half, whole_is, holds_whole, holds_half, holds_kept}
use Rattle.deep_reduce.proofs.Shared.{IsFactorHeld, raised_high, raised_low, whole_numerator, whole_denominator, is_number, false_from_ne_true, sum_of_numbers, product_of_rationals}
use Rattle.deep_reduce.proofs.Shared.{negative_power_of_rational, surd_times, no_zero, inverse_value, times_minus_one, contrary, rational_number, factor_wider, IsHeld, held_times, no_larger}
use Rattle.deep_reduce.proofs.Shared.{sum_parts, plain_answer, rational_over, rational_product, rational_sum, num_same, IsNumberOver, number_power_held, rational_power_held, alone_held}
use Rattle.deep_reduce.proofs.{Shared.{number_as_factor, value_held, factor_held, both_held, held_wider}, Quotients.{div_answer}, Steps.{two, worth_answer, neg_answer, product_value, sub_answer}}
use Rattle.std.specs.Prelude.{IfOk, IfSome, IsErr, Ok, Err}
use Rattle.calc_terms.specs.Fits.{sum_fits}
use Rattle.number_forms.proofs.RationalBits.{product_parts}
use Rattle.calc_terms.specs.declared.kind.Kind.TheVariants as kind
use Rattle.calc_algebra.proofs.MeaningRewrites as rewrites

this_fits : (q : Fraction) → fraction_fits q ≡ true → (x : Fraction) → num q ≡ num x → fraction_fits x ≡ true
this_fits q f x k = subst (λ (y : Fraction). fraction_fits y ≡ true) (num_same k) f

sum_over : (p q : Fraction) → IsNumberOver (value (num p) ++ value (num q)) (num (plus p q))
sum_over p q = rational_over (plus p q) (plus p q) (num (plus p q)) (value (num p) ++ value (num q)) refl refl (rational_sum p q (num p) (num q) refl refl) (sum_parts p q (num p) (num q) refl refl)

product_over : (p q : Fraction) → IsNumberOver (surd_times (value (num p)) (value (num q))) (num (times p q))
product_over p q =
    rational_over (times p q) (times p q) (num (times p q)) (surd_times (value (num p)) (value (num q))) refl refl (rational_product p q (num p) (num q) refl refl)
    (product_parts p q (num p) (num q) refl refl)

-- what holds the values holds the number
over_held : (v : Surd) (q : Fraction) (h l : ℕ) → IsNumberOver v (num q) → IsHeld v h l → IsFactorHeld (num q) h l
over_held v q h l o k = number_as_factor (num q) h l (rational_number q) ((no_larger (num q) v o.number o.worth o.parts).held h l k)

-- ---- sums and products

sum_held : (p q : Fraction) (h l : ℕ) → HoldsNode (add (two (num p) (num q))) h l → IsHeld (value (num p) ++ value (num q)) h l
unfolding is_number
sum_held p q h l k = both_held k

product_held : (p q : Fraction) (h l : ℕ) → AreFactorsHeld (two (num p) (num q)) h l → IsHeld (surd_times (value (num p)) (value (num q))) h l
product_held p q h l (factor_held a b k m f r x y) =
    held_wider (surd_times (value (num p)) (value (num q))) (a + k) h (b + m) l x y
    (held_times (value (num p)) (value (num q)) a k b m (value_held (num p) a b (rational_number p) f) (alone_held (num q) (rational_number q) r))

computed_sum : (p q : Fraction) → plain_value (add (two (num p) (num q))) ≡ calculated add_op p q
computed_sum p q = grind arith

pub sum_answered : (p q r : Fraction) → sum_fits p q ≡ true → r ≡ plus p q → IsNodeAnswer (add (two (num p) (num q))) (num r)
sum_answered p q r f e = subst (λ (x : Fraction). IsNodeAnswer (add (two (num p) (num q))) (num x)) (sym e)
    (worth_answer _ _ (sum_of_numbers (num p) (num q) (num (plus p q)) tt tt tt (sum_over p q).worth) refl refl refl
    (λ h. subst (λ (v : PlainValue). IsPlainAnswer v (num (plus p q))) (sym (computed_sum p q)) (plain_answer add_op p q (num (plus p q)) (λ x. cc) refl))
    (λ h l k. over_held (value (num p) ++ value (num q)) (plus p q) h l (sum_over p q) (sum_held p q h l k)))

pub product_answered : (p q r : Fraction) → fraction_fits (times p q) ≡ true → r ≡ times p q → IsNodeAnswer (mult (two (num p) (num q))) (num r)
product_answered p q r f e = subst (λ (x : Fraction). IsNodeAnswer (mult (two (num p) (num q))) (num x)) (sym e)
    (worth_answer _ _ (product_of_rationals p q) refl refl refl
    (λ h. subst (λ (v : PlainValue). IsPlainAnswer v (num (times p q))) (sym (product_value p q)) (plain_answer mul_op p q (num (times p q)) (λ x. cc) refl))
    (λ h l k. over_held (surd_times (value (num p)) (value (num q))) (times p q) h l (product_over p q) (product_held p q h l k)))

-- ---- opposites and differences

pub opposite_answered : (q r : Fraction) → fraction_fits q ≡ true → fraction_fits r ≡ true → r ≡ negative q → IsNodeAnswer (neg (num q)) (num r)
opposite_answered q r f g e = neg_answer (num q) (num r) (this_fits q f) (product_answered minus_one_fraction q r (ap fraction_fits (times_minus_one q ∙ sym e) ∙ g) (e ∙ sym (times_minus_one q)))

pub difference_answered : (p q n r : Fraction) → fraction_fits q ≡ true → fraction_fits n ≡ true → n ≡ negative q → sum_fits p n ≡ true → r ≡ plus p n → IsNodeAnswer (sub (num p) (num q)) (num r)
difference_answered p q n r f g e s t = sub_answer (num p) (num q) (num n) (opposite_answered q n f g e) (num r) (sum_answered p n r s t)

-- ---- quotients

-- the inverse of a rational other than 0
module _ (q i : Fraction) (z : is_zero_fraction q ≡ false) (f : fraction_fits q ≡ true) (e : i ≡ inverse q) where
  abbrev inverse_node : Tree
  inverse_node = power (num q) (num minus_one_fraction)

  not_zero : q ≢ zero_fraction
  not_zero = no_zero q (ap not z)

  meanings : rewrites.KeepsMeanings inverse_node (num i)
  meanings = subst (λ (x : Fraction). rewrites.KeepsMeanings inverse_node (num x)) (times_comm (inverse q) one_fraction ∙ one_times (inverse q) ∙ sym e) (negative_power_of_rational q 0 not_zero)

  raised : powered q (negsuc 0) 1 ≡ exactly i
  raised = sym (λ j. powered q (whole_numerator (negsuc 0) j) (whole_denominator (negsuc 0) j)) ∙ inverse_value q z f ∙ ap exactly (sym e)

  lacks_none : lacks_power (num q) (num minus_one_fraction) ≡ true → ⊥
  lacks_none h = grind (arith, whole_denominator)

  raised_held : (n : ℤ) (a b h l : ℕ) → n ≡ negsuc 0 → IsFactorHeld (num q) a b → raised_high n a b ≤ h → raised_low n a b ≤ l → IsFactorHeld (num i) h l
  raised_held n a b h l k g x y =
      factor_wider (num i) (subst (λ (m : ℤ). raised_high m a b ≤ h) k x) (subst (λ (m : ℤ). raised_low m a b ≤ l) k y)
      (number_power_held (negsuc 0) (num q) (num i) (rational_number q) (rational_number i) (rational_power_held (negsuc 0) q i (num q) (num i) refl refl raised) a b g)

  same_exponent : (n : ℤ) → num minus_one_fraction ≡ num (whole_fraction n) → n ≡ negsuc 0
  same_exponent n w = sym (whole_numerator n) ∙ ap (λ (x : Fraction). x.num) (sym (num_same w)) ∙ whole_numerator (negsuc 0)

  no_half_exponent : is_half_num (num minus_one_fraction) ≡ false
  no_half_exponent = whole_no_half (num minus_one_fraction) (whole_is (negsuc 0))

  inverse_held : (h l : ℕ) → HoldsPower (num q) (num minus_one_fraction) h l → IsFactorHeld (num i) h l
  inverse_held h l (holds_whole n a b w g x y) = raised_held n a b h l (same_exponent n w) g x y
  inverse_held h l (holds_half a b w g x y s t u) = contrary w no_half_exponent
  inverse_held h l (holds_kept n g) = absurd cc

  inverse_answered : IsNodeAnswer (power (num q) (num minus_one_fraction)) (num i)
  inverse_answered =
      worth_answer inverse_node i meanings (false_from_ne_true (lacks_power (num q) (num minus_one_fraction)) lacks_none) no_half_exponent refl
      (λ h. subst (λ (v : PlainValue). IsPlainAnswer v (num i)) (sym (inverse_value q z f)) (ap num e)) inverse_held

  pub quotient_answered : (p r : Fraction) → fraction_fits (times p i) ≡ true → r ≡ times p i → IsNodeAnswer (div (num p) (num q)) (num r)
  quotient_answered p r s t = div_answer (num p) (num q) (num i) (this_fits q f) inverse_answered (num r) (product_answered p i r s t)

-- ---- the children, as the program reads them

pub two_children : (ts : Trees) (a b : Tree) → count ts ≡ 2 → nth 0 ts ≡ a → nth 1 ts ≡ b → ts ≡ two a b
two_children none a b n e f = absurd (omega arith)
two_children (more x none) a b n e f = absurd (omega arith)
two_children (more x (more y none)) a b n e f = λ i. two (e i) (f i)
two_children (more x (more y (more z ts))) a b n e f = absurd (omega arith)

pub only_child : (ts : Trees) (r : Option Rat) → count ts ≡ 1 → IfSome r (λ q. nth 0 ts ≡ num (value_of q)) → IfSome r (λ q. ts ≡ more (num (value_of q)) none)
only_child ts None n h = tt
only_child none (Some q) n h = absurd (omega arith)
only_child (more x none) (Some q) n h = ap (λ (t : Tree). more t none) h
only_child (more x (more y ts)) (Some q) n h = absurd (omega arith)

-- ---- nodes by their kinds and children

pub sum_over_these : (t : Tree) (ts : Trees) → root_kind t ≡ kind.Add → children_of t ≡ ts → add ts ≡ t
sum_over_these t ts e c = grind arith

pub product_over_these : (t : Tree) (ts : Trees) → root_kind t ≡ kind.Mult → children_of t ≡ ts → mult ts ≡ t
product_over_these t ts e c = grind arith

pub difference_over : (t a b : Tree) → root_kind t ≡ kind.Sub → children_of t ≡ two a b → sub a b ≡ t
difference_over t a b e c = grind arith

pub quotient_over : (t a b : Tree) → root_kind t ≡ kind.Div → children_of t ≡ two a b → div a b ≡ t
quotient_over t a b e c = grind arith

pub opposite_over : (t a : Tree) → root_kind t ≡ kind.Neg → children_of t ≡ more a none → neg a ≡ t
opposite_over t a e c = grind arith

-- ---- calls on rationals

not_false : (b : Bool) → (b ≡ false → ⊥) → b ≡ true
not_false b h = grind arith

-- a result where there is one fits, and is what the operation gives
pub calculated_is : (op : Operation) (p q : Fraction) (r : Result Rat Overflow) (o : Option Rat) → o ≡ result_ok r → IfOk r (λ x. value_of x ≡ result_of op p q)
    → (IsErr r ↔ (operation_fits op p q ≡ false))
    → IfSome o (λ x. (operation_fits op p q ≡ true) × (value_of x ≡ result_of op p q))
calculated_is op p q (Ok x) o e v f =
    subst (λ (y : Option Rat). IfSome y (λ z. (operation_fits op p q ≡ true) × (value_of z ≡ result_of op p q))) (sym e) (not_false (operation_fits op p q) (λ n. absurd (let h = f.1 n in cc)), v)
calculated_is op p q (Err x) o e v f = subst (λ (y : Option Rat). IfSome y (λ z. (operation_fits op p q ≡ true) × (value_of z ≡ result_of op p q))) (sym e) tt

pub some_told : {P Q : Rat → Type 0} (o : Option Rat) → IfSome o P → ((x : Rat) → P x → Q x) → IfSome o Q
some_told None h k = tt
some_told (Some x) h k = k x h

pub some_answered : {t u : Tree} (o : Option Rat) → t ≡ u → IfSome o (λ r. IsNodeAnswer t (num (value_of r))) → IfSome o (λ r. IsNodeAnswer u (num (value_of r)))
some_answered o e h = subst (λ (x : Tree). IfSome o (λ r. IsNodeAnswer x (num (value_of r)))) e h

-- ---- bytes

some_nodes : (t : Tree) (n : ℕ) → HasNodesFor n t → 1 ≤ n
some_nodes t n h = grind arith

-- a number has no more bytes than a node needs
pub number_needs : (t : Tree) (n m : ℕ) → HasNodesFor n t → 0 < m → 40 ≤ simple_room n m
number_needs t n m h k = omega (arith, mul-le 1 1 n m (some_nodes t n h) k)
