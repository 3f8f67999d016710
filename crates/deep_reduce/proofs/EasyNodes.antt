-- The answer of an Easy node, from its children's answers.
use Rattle.deep_reduce.proofs.Shared.{◌≡◌, ◌≢◌, ℕ, ◌≤◌, ◌⊎◌, inl, inr, ℤ, pos, negsuc, Bool, true, false, ◌&&◌, refl, sym, ap, ◌∙◌, arith, ◌||◌, ◌==◌, ◌≤ℤ◌, le-leb, eq-eqb, eqb-true, ints, zero_is}
use Rattle.deep_reduce.proofs.Shared.{whole_numerator, whole_denominator, number_words, numbers_defined, IsBad, IsBadNode, IsEasy, IsZero, IsHalf, IsNegative, GivesZeroNoPower, HasValue, Fraction}
use Rattle.deep_reduce.proofs.Shared.{whole_fraction, minus_one_fraction, zero_fraction, is_zero_fraction, int_is_negative, int_is_zero, is_number, classes, are_numbers, Surd, surd_of, Tree, num}
use Rattle.deep_reduce.proofs.Shared.{undef, add, mult, power, root, neg, sub, div, Trees, none, more, is_undef, is_num, IsPartOf, itself, in_add, in_mult, in_base, in_exponent, in_root, in_neg}
use Rattle.deep_reduce.proofs.Shared.{in_left, in_right, in_dividend, in_divisor, first, later, has_undef, has_no_half_power, lacks_power, is_number_power, IsNodeAnswer, has_no_value, has_number}
use Rattle.deep_reduce.proofs.Shared.{one_is_not_two, whole_no_half, whole_is, IsReducedFrom, is_zero, has_no_power, has_number_power, is_at_most_zero, has_no_root, kept, KeepsMeanings, and_from}
use Rattle.deep_reduce.proofs.Shared.{and_parts, or_from, or_left, or_right, false_from_ne_true, cases_Bool, or_other, undef_words, undef_test, zero_words, bad_has_no_value, easy_decided, HasBad}
use Rattle.deep_reduce.proofs.Shared.{easy_part, bad_part, bad_sum, bad_product, bad_neg, bad_sub, bad_div, bad_power, bad_root, undef_is_bad, num_is_not_bad, sum_of_bad, product_of_bad}
use Rattle.deep_reduce.proofs.Shared.{reduced_value, zero_reduced, rational_reduced, negative_reduced, easy_divisor, EasyWholePower, EasyHalfPower, easy_power, easy_root, Evaluates, no_undef}
use Rattle.deep_reduce.proofs.{Opened.{lacks_whole, number_whole}, NodeRewrites.{AreReducedFrom, IsOver, over_number, over_symbol, over_undef, over_sum, over_product, over_power, over_root, over_neg}}
use Rattle.deep_reduce.proofs.NodeRewrites.{over_sub, over_div}
pub use Rattle.power_reduce.proofs.HeldPowers.{number_defined}

-- ---- tests

zero_test : is_zero (num zero_fraction) ≡ true
unfolding zero_fraction
zero_test = ap int_is_zero (whole_numerator (pos 0))

-- ---- exponents

pub whole_power_number : (r : Tree) (n : ℤ) → is_number r ≡ true → ((k : ℕ) → n ≡ negsuc k → classes r ≤ 2) → has_number_power r (num (whole_fraction n)) ≡ true
whole_power_number r n h k = grind (arith, whole_denominator, whole_numerator, and_from, le-leb)

pub whole_power_defined : (r : Tree) (n : ℤ) → is_number r ≡ true → (n ≤ℤ pos 0 → r ≢ num zero_fraction) → has_no_power r (num (whole_fraction n)) ≡ false
whole_power_defined r n h k = grind (arith, or_from, number_defined, false_from_ne_true, and_parts, whole_denominator, whole_numerator, zero_words)

pub zero_power : (n : ℤ) (c : Tree) → n ≤ℤ pos 0 → c ≡ num zero_fraction → has_no_power c (num (whole_fraction n)) ≡ true
zero_power n c h k = grind (arith, or_right, and_from, zero_test, whole_denominator, whole_numerator)

-- the same of a whole exponent, in the words of any
whole_lacks : (r : Tree) (n : ℤ) (x : Bool) → has_no_power r (num (whole_fraction n)) ≡ x → lacks_power r (num (whole_fraction n)) ≡ x
whole_lacks r n x h = lacks_whole r (num (whole_fraction n)) (whole_no_half (num (whole_fraction n)) (whole_is n)) ∙ h

whole_number : (r : Tree) (n : ℤ) → has_number_power r (num (whole_fraction n)) ≡ true → is_number_power r (num (whole_fraction n)) ≡ true
whole_number r n h = number_whole r (num (whole_fraction n)) (whole_no_half (num (whole_fraction n)) (whole_is n)) ∙ h

-- and of half of an odd whole number
half_lacks : (b h : Fraction) → h.den ≡ 2 → (int_is_negative b.num || is_zero_fraction b && int_is_negative h.num) ≡ true → lacks_power (num b) (num h) ≡ true
half_lacks b h d e =
    or_right (has_no_power (num b) (num h)) (has_no_half_power (num b) (num h)) (and_from (h.den == 2) (int_is_negative b.num || is_zero_fraction b && int_is_negative h.num) (eq-eqb h.den 2 d) e)

half_defined : (b h : Fraction) → h.den ≡ 2 → int_is_negative b.num ≡ false → (int_is_negative h.num ≡ true → num b ≢ num zero_fraction) → lacks_power (num b) (num h) ≡ false
half_defined b h k a c = grind (arith, or_from, false_from_ne_true, and_parts, one_is_not_two, eqb-true, or_other, zero_is)

half_number : (b h : Fraction) → h.den ≡ 2 → is_number_power (num b) (num h) ≡ true
half_number b h d = or_right (has_number_power (num b) (num h)) (h.den == 2) (eq-eqb h.den 2 d)

-- ---- one child

module _ (t r : Tree) (h : IsReducedFrom t r) (e : IsEasy t) where
  child_bad : IsBad t → is_undef r ≡ true
  child_bad b = undef_test r ((h.easy e).undefined.1 b)

  child_number : ¬ (IsBad t) → is_number r ≡ true
  child_number n = (h.easy e).number (elim (cases_Bool (is_undef r)) [ inl u ↦ absurd (n ((h.easy e).undefined.0 (undef_words r u))) | inr u ↦ u ])

children_bad : (ts us : Trees) → AreReducedFrom ts us → ((p : Tree) → IsPartOf p ts → IsEasy p) → HasBad ts → has_undef us ≡ true
children_bad none us h e b = absurd b
children_bad (more t ts) none h e b = absurd h
children_bad (more t ts) (more u us) h e (inl b) = or_left (is_undef u) (has_undef us) (child_bad t u h.0 (e t (first itself)) b)
children_bad (more t ts) (more u us) h e (inr b) = or_right (is_undef u) (has_undef us) (children_bad ts us h.1 (λ p k. e p (later k)) b)

children_numbers : (ts us : Trees) → AreReducedFrom ts us → ((p : Tree) → IsPartOf p ts → IsEasy p) → ¬ (HasBad ts) → are_numbers us ≡ true
children_numbers none none h e n = refl
children_numbers (more t ts) (more u us) h e n =
    and_from (is_number u) (are_numbers us) (child_number t u h.0 (e t (first itself)) (λ b. n (inl b))) (children_numbers ts us h.1 (λ p k. e p (later k)) (λ b. n (inr b)))
children_numbers ts us h e n = absurd h

-- ---- whether the node has a value

-- the children's answers show whether an Easy node is Bad
pub record Decides (t u : Tree) : Type 0 where
  pub bad : IsBad t → has_no_value u ≡ true
  pub defined : ¬ (IsBad t) → has_no_value u ≡ false
  pub number : ¬ (IsBad t) → has_number u ≡ true

number_decides : (q : Fraction) → Decides (num q) (num q)
number_decides q = record { bad = λ b. absurd (num_is_not_bad q b); defined = λ n. refl; number = λ n. refl }

undef_decides : Decides undef undef
undef_decides = record { bad = λ b. refl; defined = λ n. absurd (n undef_is_bad); number = λ n. absurd (n undef_is_bad) }

sum_decides : (ts us : Trees) → AreReducedFrom ts us → IsEasy (add ts) → Decides (add ts) (add us)
sum_decides ts us h e =
    let parts = λ (p : Tree) (k : IsPartOf p ts). easy_part p (add ts) (in_add k) e in
    let numbers : ¬ (IsBad (add ts)) → are_numbers us ≡ true = λ n. children_numbers ts us h parts (λ b. n (sum_of_bad ts b)) in
    record { bad = λ b. children_bad ts us h parts (bad_sum ts b); defined = λ n. numbers_defined us (numbers n); number = numbers }

product_decides : (ts us : Trees) → AreReducedFrom ts us → IsEasy (mult ts) → Decides (mult ts) (mult us)
product_decides ts us h e =
    let parts = λ (p : Tree) (k : IsPartOf p ts). easy_part p (mult ts) (in_mult k) e in
    let numbers : ¬ (IsBad (mult ts)) → are_numbers us ≡ true = λ n. children_numbers ts us h parts (λ b. n (product_of_bad ts b)) in
    record { bad = λ b. children_bad ts us h parts (bad_product ts b); defined = λ n. numbers_defined us (numbers n); number = numbers }

neg_decides : (a c : Tree) → IsReducedFrom a c → IsEasy (neg a) → Decides (neg a) (neg c)
neg_decides a c h e =
    let part = easy_part a (neg a) (in_neg itself) e in
    let number : ¬ (IsBad (neg a)) → is_number c ≡ true = λ n. child_number a c h part (λ b. n (bad_part a (neg a) (in_neg itself) b)) in
    record { bad = λ b. child_bad a c h part (bad_neg a b); defined = λ n. number_defined c (number n); number = number }

sub_decides : (a c b d : Tree) → IsReducedFrom a c → IsReducedFrom b d → IsEasy (sub a b) → Decides (sub a b) (sub c d)
sub_decides a c b d h k e =
    let left = easy_part a (sub a b) (in_left itself) e in
    let right = easy_part b (sub a b) (in_right itself) e in
    let l : ¬ (IsBad (sub a b)) → is_number c ≡ true = λ n. child_number a c h left (λ x. n (bad_part a (sub a b) (in_left itself) x)) in
    let r : ¬ (IsBad (sub a b)) → is_number d ≡ true = λ n. child_number b d k right (λ x. n (bad_part b (sub a b) (in_right itself) x)) in
    record {
      bad = λ x. by (bad_sub a b x);
      defined = λ n. or_from (is_undef c) (is_undef d) (number_defined c (l n)) (number_defined d (r n));
      number = λ n. and_from (is_number c) (is_number d) (l n) (r n);
    }
  where
    by : IsBad a ⊎ IsBad b → is_undef c || is_undef d ≡ true
    by (inl x) = or_left (is_undef c) (is_undef d) (child_bad a c h (easy_part a (sub a b) (in_left itself) e) x)
    by (inr x) = or_right (is_undef c) (is_undef d) (child_bad b d k (easy_part b (sub a b) (in_right itself) e) x)

-- a tree with a value is not Bad
valued : (t : Tree) (v : Surd) → HasValue t v → ¬ (IsBad t)
valued t v m b = bad_has_no_value t v b m

-- a zero is answered for what means zero
zero_answer : (t r : Tree) → IsReducedFrom t r → IsEasy t → IsZero t → r ≡ num zero_fraction
zero_answer t r h e z = zero_reduced t r (kept h.reduces.meanings) (number_words r (child_number t r h e (valued t _ z))) z

div_decides : (a c b d : Tree) → IsReducedFrom a c → IsReducedFrom b d → IsEasy (div a b) → Decides (div a b) (div c d)
div_decides a c b d h k e =
    let left = easy_part a (div a b) (in_dividend itself) e in
    let right = easy_part b (div a b) (in_divisor itself) e in
    let l : ¬ (IsBad (div a b)) → is_number c ≡ true = λ n. child_number a c h left (λ x. n (bad_part a (div a b) (in_dividend itself) x)) in
    let r : ¬ (IsBad (div a b)) → is_number d ≡ true = λ n. child_number b d k right (λ x. n (bad_part b (div a b) (in_divisor itself) x)) in
    let divisor = λ (n : ¬ (IsBad (div a b))). easy_divisor a b d e n (kept k.reduces.meanings) (number_words d (r n)) in
    record {
      bad = λ x. by (bad_div a b x);
      defined = λ n.
          or_from (is_undef c) (lacks_power d (num minus_one_fraction)) (number_defined c (l n)) (whole_lacks d (negsuc 0) false (whole_power_defined d (negsuc 0) (r n) (λ z. (divisor n).0)));
      number = λ n. and_from (is_number c) (is_number_power d (num minus_one_fraction)) (l n) (whole_number d (negsuc 0) (whole_power_number d (negsuc 0) (r n) (λ i z. (divisor n).1)));
    }
  where
    no_inverse : lacks_power d (num minus_one_fraction) ≡ true → is_undef c || lacks_power d (num minus_one_fraction) ≡ true
    no_inverse l = or_right (is_undef c) (lacks_power d (num minus_one_fraction)) l

    by : IsBad a ⊎ (IsBad b ⊎ IsZero b) → is_undef c || lacks_power d (num minus_one_fraction) ≡ true
    by (inl x) = or_left (is_undef c) (lacks_power d (num minus_one_fraction)) (child_bad a c h (easy_part a (div a b) (in_dividend itself) e) x)
    by (inr (inl x)) = no_inverse (whole_lacks d (negsuc 0) true (or_left (is_undef d || false) (is_zero d && is_at_most_zero (num minus_one_fraction)) (or_left (is_undef d) false (child_bad b d k (easy_part b (div a b) (in_divisor itself) e) x))))
    by (inr (inr z)) = no_inverse (whole_lacks d (negsuc 0) true (zero_power (negsuc 0) d (omega (arith, ints)) (zero_answer b d k (easy_part b (div a b) (in_divisor itself) e) z)))

power_decides : (b c g x : Tree) → IsReducedFrom b c → IsReducedFrom g x → IsEasy (power b g) → Decides (power b g) (power c x)
power_decides b c g x h k e =
    let l : ¬ (IsBad (power b g)) → is_number c ≡ true = λ n. child_number b c h base (λ y. n (bad_part b (power b g) (in_base itself) y)) in
    let r : ¬ (IsBad (power b g)) → is_number x ≡ true = λ n. child_number g x k exponent (λ y. n (bad_part g (power b g) (in_exponent itself) y)) in
    let known = λ (n : ¬ (IsBad (power b g))). easy_power b g c x e n (kept h.reduces.meanings) (kept k.reduces.meanings) (number_words c (l n)) (number_words x (r n)) in
    record {
      bad = λ y. by (bad_power b g y);
      defined = λ n. defined_by (l n) (known n);
      number = λ n. number_by (l n) (known n);
    }
  where
    base : IsEasy b
    base = easy_part b (power b g) (in_base itself) e

    exponent : IsEasy g
    exponent = easy_part g (power b g) (in_exponent itself) e

    defined_by : is_number c ≡ true → EasyWholePower c x ⊎ EasyHalfPower c x → lacks_power c x ≡ false
    defined_by n (inl p) = ap (lacks_power c) p.exponent_is ∙ whole_lacks c p.exponent false (whole_power_defined c p.exponent n p.not_zero)
    defined_by n (inr p) = (λ i. lacks_power (p.base_is i) (p.exponent_is i)) ∙ half_defined p.base p.exponent p.half p.not_negative (λ f z. p.not_zero f (p.base_is ∙ z))

    number_by : is_number c ≡ true → EasyWholePower c x ⊎ EasyHalfPower c x → is_number_power c x ≡ true
    number_by n (inl p) = ap (is_number_power c) p.exponent_is ∙ whole_number c p.exponent (whole_power_number c p.exponent n p.short)
    number_by n (inr p) = (λ i. is_number_power (p.base_is i) (p.exponent_is i)) ∙ half_number p.base p.exponent p.half

    -- what the exponent means is answered for it
    exponent_answer : (q : Fraction) → HasValue g (surd_of q) → x ≡ num q
    exponent_answer q w = rational_reduced g x q (kept k.reduces.meanings) (number_words x (child_number g x k exponent (valued g (surd_of q) w))) w

    side : is_undef c || is_undef x ≡ true → lacks_power c x ≡ true
    side u = or_left (has_no_power c x) (has_no_half_power c x) (or_left (is_undef c || is_undef x) (is_zero c && is_at_most_zero x) u)

    zero_base : IsZero b → GivesZeroNoPower g → lacks_power c x ≡ true
    zero_base z (inl (n, low, w)) = ap (lacks_power c) (exponent_answer (whole_fraction n) w) ∙ whole_lacks c n true (zero_power n c low (zero_answer b c h base z))
    zero_base z (inr (q, low, (d, w))) =
        (λ i. lacks_power (zero_answer b c h base z i) (exponent_answer q w i))
        ∙ half_lacks zero_fraction q d
        (or_right (int_is_negative zero_fraction.num) (is_zero_fraction zero_fraction && int_is_negative q.num)
        (and_from (is_zero_fraction zero_fraction) (int_is_negative q.num) zero_test low))

    negative_base : IsNegative b → (q : Fraction) → IsHalf g q → lacks_power c x ≡ true
    negative_base m q (d, w) =
        let (p, s, is) = negative_reduced b c (kept h.reduces.meanings) (number_words c (child_number b c h base (valued b _ m.2))) m in
        (λ i. lacks_power (is i) (exponent_answer q w i)) ∙ half_lacks p q d (or_left (int_is_negative p.num) (is_zero_fraction p && int_is_negative q.num) s)

    by : IsBad b ⊎ (IsBad g ⊎ IsBadNode (power b g)) → lacks_power c x ≡ true
    by (inl y) = side (or_left (is_undef c) (is_undef x) (child_bad b c h base y))
    by (inr (inl y)) = side (or_right (is_undef c) (is_undef x) (child_bad g x k exponent y))
    by (inr (inr (inl (z, y)))) = zero_base z y
    by (inr (inr (inr (m, q, y)))) = negative_base m q y

root_decides : (a c : Tree) → IsReducedFrom a c → IsEasy (root a) → Decides (root a) (root c)
root_decides a c h e = record {
  bad = λ x. by (bad_root a x);
  defined = λ n. let (q, is, s) = known n in ap has_no_root is ∙ s;
  number = λ n. let (q, is, s) = known n in ap is_num is;
}
  where
    part : IsEasy a
    part = easy_part a (root a) (in_root itself) e

    known : ¬ (IsBad (root a)) → (q : Fraction) × (c ≡ num q) × (int_is_negative q.num ≡ false)
    known n = easy_root a c e n (kept h.reduces.meanings) (number_words c (child_number a c h part (λ b. n (bad_part a (root a) (in_root itself) b))))

    by : IsBad a ⊎ IsNegative a → has_no_root c ≡ true
    by (inl b) = ap has_no_root (undef_words c (child_bad a c h part b))
    by (inr m) = let (q, s, is) = negative_reduced a c (kept h.reduces.meanings) (number_words c (child_number a c h part (valued a _ m.2))) m in ap has_no_root is ∙ s

decides : (t u : Tree) → IsOver t u → IsEasy t → Decides t u
decides t u (over_number q) e = number_decides q
decides t u (over_symbol x) e = absurd (let h = e.no_symbols in cc)
decides t u over_undef e = undef_decides
decides t u (over_sum ts us h) e = sum_decides ts us h e
decides t u (over_product ts us h) e = product_decides ts us h e
decides t u (over_power b c g x h k) e = power_decides b c g x h k e
decides t u (over_root a c h) e = root_decides a c h e
decides t u (over_neg a c h) e = neg_decides a c h e
decides t u (over_sub a c b d h k) e = sub_decides a c b d h k e
decides t u (over_div a c b d h k) e = div_decides a c b d h k e

-- ---- the answer

evaluated : (t u r : Tree) → Decides t u → IsEasy t → IsNodeAnswer u r → KeepsMeanings t r → Evaluates t r
evaluated t u r d e a k = record {
  undefined = (λ x. answered (easy_decided t e) x, λ b. a.undefined (d.bad b));
  number = λ n. number (not_bad n);
  value = λ n. let (v, m) = worth n (easy_decided t e) in reduced_value t r (kept k) (number_words r (number (not_bad n))) v m;
}
  where
    number : ¬ (IsBad t) → is_number r ≡ true
    number n = a.number (d.number n) (d.defined n)

    not_bad : is_undef r ≡ false → ¬ (IsBad t)
    not_bad n b = absurd (let u : is_undef r ≡ true = undef_test r (a.undefined (d.bad b)) in cc)

    answered : IsBad t ⊎ ((v : Surd) × HasValue t v) → r ≡ undef → IsBad t
    answered (inl b) x = b
    answered (inr (v, m)) x = absurd (no_undef (ap is_number (sym x) ∙ number (valued t v m)))

    worth : is_undef r ≡ false → IsBad t ⊎ ((v : Surd) × HasValue t v) → (v : Surd) × HasValue t v
    worth n (inl b) = absurd (not_bad n b)
    worth n (inr v) = v

pub answered_easy : (t u r : Tree) → IsOver t u → IsNodeAnswer u r → KeepsMeanings t r → IsEasy t → Evaluates t r
answered_easy t u r h a k e = evaluated t u r (decides t u h e) e a k
