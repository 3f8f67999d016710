-- What calls on a node of a kind tell, in the words of any node.
use Rattle.deep_reduce.proofs.Shared.{◌≡◌, ◌≢◌, ℕ, List, negsuc, true, false, ◌&&◌, refl, sym, ap, ◌∙◌, subst, arith, inl, inr, Result, false_from_ne_true, lowest, minus_one_fraction, ratio_of}
use Rattle.deep_reduce.proofs.Shared.{value_of, PlainValue, nothing, plain_value, is_half_num, is_reduced, is_whole_num, are_reduced, Tree, num, symbol, undef, add, mult, power, root, neg, sub, div}
use Rattle.deep_reduce.proofs.Shared.{Trees, none, more, is_add, is_mult, is_root, is_num, root_kind, are_rationals, has_undef, value, int_is_negative, IsNoLargerThanRoot, IsReducedProduct}
use Rattle.deep_reduce.proofs.Shared.{IsReducedPower, SpansTree, IsNodeAnswer, IsNodeOverflow, is_neg, base_in, exponent_in, no_plain_value, whole_no_half, whole_is, NamesProduct, argument_of}
use Rattle.deep_reduce.proofs.Shared.{IfRational, IsRootAnswer, Overflow, IsPlainAnswer, IsPlainOverflow, IsSumAnswer, nth, children_of, and_from, and_parts, cases_Bool, NumberFault, IfOverflow}
use Rattle.deep_reduce.proofs.{Shared.{KeepsSumBounds, contrary, Rat, Ratio, whole}, Steps.{two, sum_answer, product_answer, power_answer, root_answer, number_answer, symbol_answer, undef_answer}}
use Rattle.calc_terms.specs.declared.kind.Kind.TheVariants as kind

-- ---- kinds

pub power_kind : (t : Tree) → kind.Pow ≡ root_kind t → t ≡ power (base_in t) (exponent_in t)
power_kind t h = grind arith

pub root_kind_is : (t : Tree) → kind.Root ≡ root_kind t → is_root t ≡ true
root_kind_is t h = grind arith

pub neg_kind : (t : Tree) → kind.Neg ≡ root_kind t → is_neg t ≡ true
neg_kind t h = grind arith

-- ---- the node by its children

pub neg_is : (t : Tree) → is_neg t ≡ true → t ≡ neg (nth 0 (children_of t))
neg_is t h = grind arith

pub sub_is : (t : Tree) → kind.Sub ≡ root_kind t → t ≡ sub (nth 0 (children_of t)) (nth 1 (children_of t))
sub_is t h = grind arith

pub div_is : (t : Tree) → kind.Div ≡ root_kind t → t ≡ div (nth 0 (children_of t)) (nth 1 (children_of t))
div_is t h = grind arith

pub neg_children : (t : Tree) → is_neg t ≡ true → children_of t ≡ more (nth 0 (children_of t)) none
neg_children t e = ap children_of (neg_is t e)

-- ---- answers

pub sum_told : (t r : Tree) → is_add t ≡ true → IsSumAnswer (children_of t) r → KeepsSumBounds (children_of t) r → (are_rationals (children_of t) ≡ true → IsPlainAnswer (plain_value t) r)
    → IsNodeAnswer t r
sum_told (add ts) r e a b p = sum_answer ts r a b p
sum_told t r e a b p = cc

pub product_told : (t r : Tree) → is_mult t ≡ true → IsReducedProduct (children_of t) r → (are_rationals (children_of t) ≡ true → IsPlainAnswer (plain_value t) r) → IsNodeAnswer t r
product_told (mult ts) r e a p = product_answer ts r a p
product_told t r e a p = cc

pub power_told : (t r : Tree) → t ≡ power (base_in t) (exponent_in t) → IsReducedPower (base_in t) (exponent_in t) r
    → (are_rationals (children_of t) ≡ true → IsPlainAnswer (plain_value t) r) → IsNodeAnswer t r
power_told t r h k a = grind (arith, power_answer)

-- both sides are rationals
pub power_sides : (t : Tree) → t ≡ power (base_in t) (exponent_in t) → are_rationals (children_of t) ≡ true → (is_num (base_in t) ≡ true) × (is_num (exponent_in t) ≡ true)
power_sides t h k = grind (arith, and_parts)

-- both sides are rationals, and the exponent is no half
pub record IsRationalPower (t : Tree) : Type 0 where
  pub rationals : are_rationals (children_of t) ≡ true
  pub no_half : is_half_num (exponent_in t) ≡ false

pub half_no_whole : (e : Tree) → is_half_num e ≡ true → is_whole_num e ≡ false
half_no_whole e h = false_from_ne_true (is_whole_num e) (λ w. contrary h (whole_no_half e w))

-- a power by half of an odd whole number has no plain value
half_plain : (t : Tree) → t ≡ power (base_in t) (exponent_in t) → are_rationals (children_of t) ≡ true → is_half_num (exponent_in t) ≡ true → plain_value t ≡ nothing
half_plain t k h e = let s = power_sides t k h in ap plain_value k ∙ no_plain_value (base_in t) (exponent_in t) s.0 s.1 (half_no_whole (exponent_in t) e)

pub rational_answer : (t r : Tree) → t ≡ power (base_in t) (exponent_in t) → (IsRationalPower t → IsPlainAnswer (plain_value t) r) → are_rationals (children_of t) ≡ true
    → IsPlainAnswer (plain_value t) r
rational_answer t r k p h = elim (cases_Bool (is_half_num (exponent_in t))) [ inl e ↦ subst (λ (v : PlainValue). IsPlainAnswer v r) (sym (half_plain t k h e)) tt | inr e ↦ p (record { rationals = h; no_half = e }) ]

pub rational_overflow : (t : Tree) (o : Overflow) → t ≡ power (base_in t) (exponent_in t) → (IsRationalPower t → IsPlainOverflow (plain_value t) o) → are_rationals (children_of t) ≡ true
    → IsPlainOverflow (plain_value t) o
rational_overflow t o h k a = grind (arith, cases_Bool, half_plain)

pub inverse_no_half : (t b : Tree) → t ≡ power b (num minus_one_fraction) → is_half_num (exponent_in t) ≡ false
inverse_no_half t b e = ap (λ (u : Tree). is_half_num (exponent_in u)) e ∙ whole_no_half (num minus_one_fraction) (whole_is (negsuc 0))

sides_reduced : (a b : Tree) → are_reduced (two a b) ≡ true → (is_reduced a ≡ true) × (is_reduced b ≡ true)
sides_reduced a b h = let (x, y) = and_parts (is_reduced a) (is_reduced b && true) h in (x, (and_parts (is_reduced b) true y).0)

pub power_reduced : (t : Tree) → t ≡ power (base_in t) (exponent_in t) → are_reduced (children_of t) ≡ true → (is_reduced (base_in t) ≡ true) × (is_reduced (exponent_in t) ≡ true)
power_reduced t h k = grind (arith, sides_reduced)

pub root_told : (t r : Tree) → is_root t ≡ true → is_reduced (argument_of t) ≡ true → IsRootAnswer (argument_of t) r → ((gs : List ℕ) → SpansTree gs t → SpansTree gs r)
    → IfRational (argument_of t) (λ q. int_is_negative q.num ≡ false → IsNoLargerThanRoot q (value r)) → IsNodeAnswer t r
root_told (root a) r e x h s m = root_answer a r x h s m
root_told t r e x h s m = cc

pub argument_reduced : (t : Tree) → is_root t ≡ true → are_reduced (children_of t) ≡ true → is_reduced (argument_of t) ≡ true
argument_reduced t h k = grind (arith, and_parts)

-- a root of rationals has no plain value
pub root_overflow : (t : Tree) (o : Overflow) → is_root t ≡ true → NamesProduct (argument_of t) o → IsNodeOverflow t o
root_overflow t o h k = grind arith

-- a leaf is its own answer
pub leaf_told : (t : Tree) → kind.Add ≢ root_kind t → kind.Mult ≢ root_kind t → kind.Pow ≢ root_kind t → kind.Root ≢ root_kind t → kind.Neg ≢ root_kind t → kind.Sub ≢ root_kind t
    → kind.Div ≢ root_kind t → IsNodeAnswer t t
leaf_told (num q) a b c d e f g = number_answer q
leaf_told (symbol x) a b c d e f g = symbol_answer x
leaf_told undef a b c d e f g = undef_answer
leaf_told (add ts) a b c d e f g = absurd (a refl)
leaf_told (mult ts) a b c d e f g = absurd (b refl)
leaf_told (power x y) a b c d e f g = absurd (c refl)
leaf_told (root x) a b c d e f g = absurd (d refl)
leaf_told (neg x) a b c d e f g = absurd (e refl)
leaf_told (sub x y) a b c d e f g = absurd (f refl)
leaf_told (div x y) a b c d e f g = absurd (g refl)

-- ---- in other words

pub power_words : (t b e : Tree) → t ≡ power b e → t ≡ power (base_in t) (exponent_in t)
power_words t b e q = q ∙ (λ i. power (base_in (sym q i)) (exponent_in (sym q i)))

-- of a tree that is another
pub answer_at : {t u : Tree} (r : Tree) → t ≡ u → IsNodeAnswer t r → IsNodeAnswer u r
answer_at r e h = subst (λ x. IsNodeAnswer x r) e h

pub overflow_at : {t u : Tree} (o : Overflow) → t ≡ u → IsNodeOverflow t o → IsNodeOverflow u o
overflow_at o e h = subst (λ x. IsNodeOverflow x o) e h

-- -1, as the program makes it
pub minus_one_value : (r : Rat) → ratio_of r ≡ whole (negsuc 0) → num (value_of r) ≡ num minus_one_fraction
minus_one_value r e = ap (λ (x : Ratio). num (lowest x.num x.den)) e

-- two reduced trees
pub two_reduced : (a b : Tree) → is_reduced a ≡ true → is_reduced b ≡ true → are_reduced (two a b) ≡ true
two_reduced a b h k = and_from (is_reduced a) (is_reduced b && true) h (and_from (is_reduced b) true k refl)

pub only_reduced : (ts : Trees) (a : Tree) → ts ≡ more a none → are_reduced ts ≡ true → is_reduced a ≡ true
only_reduced ts a e h = (and_parts (is_reduced a) true (ap are_reduced (sym e) ∙ h)).0

pub both_reduced : (ts : Trees) (a b : Tree) → ts ≡ two a b → are_reduced ts ≡ true → (is_reduced a ≡ true) × (is_reduced b ≡ true)
both_reduced ts a b e h = sides_reduced a b (ap are_reduced (sym e) ∙ h)

-- an overflow is of a node without Undef children
pub node_fits : (t : Tree) (r : Result ℕ NumberFault) → IfOverflow r (IsNodeOverflow t) → (has_undef (children_of t) ≡ false → IfOverflow r (λ o. ⊥)) → IfOverflow r (λ o. ⊥)
node_fits t r h k = grind arith
