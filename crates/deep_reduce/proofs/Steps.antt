-- What the calls on sums, products, powers and roots answer, as answers of a node.
use Rattle.deep_reduce.proofs.Shared.{◌≡◌, ℕ, ◌⊎◌, inl, inr, true, false, ◌&&◌, List, refl, sym, ◌∙◌, subst, arith, append-nil, ◌||◌, Contains, [], ◌++◌, fraction_fits, mul_op, Fraction}
use Rattle.deep_reduce.proofs.Shared.{minus_one_fraction, negative, zero_fraction, one_fraction, is_number, value, PlainValue, exactly, undefined, overflow, nothing, calculated, plain_value}
use Rattle.deep_reduce.proofs.Shared.{is_reduced, int_is_negative, Tree, num, symbol, undef, add, mult, power, root, neg, sub, div, Trees, none, more, names, is_undef, is_num, IsPart, IsPartOf}
use Rattle.deep_reduce.proofs.Shared.{itself, in_add, in_mult, in_base, in_exponent, in_root, in_neg, in_left, in_right, in_dividend, in_divisor, first, later, has_undef, are_rationals}
use Rattle.deep_reduce.proofs.Shared.{IsReducedProduct, IsReducedPower, IsNodeAnswer, IsNodeOverflow, has_no_value, SpansTree, base_in, IfRational, IsRootAnswer, Overflow, keeps, kept, Rewrites-refl}
use Rattle.deep_reduce.proofs.Shared.{reduces, reduces_after, IsPlainAnswer, Rewrites, Reduces, IsNoLargerThanRoot, IsSumAnswer, children_of, and_from, and_parts, or_cases, or_from, or_left, or_right}
use Rattle.deep_reduce.proofs.Shared.{or_parts, number_reduced, symbol_reduced, undef_reduced, as_num, undef_inside, rationals_defined, KeepsNodeRoom, node_count, KeepsRootRoom, HoldsNode, has_number}
use Rattle.deep_reduce.proofs.Shared.{is_half_num, exponent_in, IsFactorHeld, is_leaf, KeepsSumBounds, contrary, undef_words, undef_test, rational_number, tree_factor, root_answer_held, zero_held}
use Rattle.deep_reduce.proofs.Shared.{one_held, opposite_factors, second_side, answer_defined, power_answer_held, node_room, undef_room, same_room, number_room, root_node_room, opposite_room}
use Rattle.deep_reduce.proofs.{Shared.{difference_room, undef_root_room, undef_part, opposite_value}, EasyNodes.{number_defined}, NodeRewrites.{both}, PlainNodes.{undef_has_no_value}}
use Rattle.node_bounds.proofs.{NodeBits.{two_terms}, NodeRooms.{sum_room}}
pub use Rattle.calc_algebra.proofs.SmallLaws.{no_names}
use Rattle.calc_algebra.proofs.MeaningRewrites as rewrites

abbrev pub two : Tree → Tree → Trees
two a b = more a (more b none)

-- ---- Undef

in_two : (a b u : Tree) → (IsPart undef a → IsPart undef u) → (IsPart undef b → IsPart undef u) → IsPartOf undef (two a b) → IsPart undef u
in_two a b u f g (first k) = f k
in_two a b u f g (later (first k)) = g k
in_two a b u f g (later (later k)) = elim k [ ]

in_one : (a u : Tree) → (IsPart undef a → IsPart undef u) → IsPartOf undef (more a none) → IsPart undef u
in_one a u h k = grind arith

undef_child : (u : Tree) → IsPartOf undef (children_of u) → IsPart undef u
undef_child undef k = itself
undef_child (add ts) k = in_add k
undef_child (mult ts) k = in_mult k
undef_child (power b e) k = in_two b e (power b e) (λ x. in_base x) (λ x. in_exponent x) k
undef_child (root a) k = in_one a (root a) (λ x. in_root x) k
undef_child (neg a) k = in_one a (neg a) (λ x. in_neg x) k
undef_child (sub a b) k = in_two a b (sub a b) (λ x. in_left x) (λ x. in_right x) k
undef_child (div a b) k = in_two a b (div a b) (λ x. in_dividend x) (λ x. in_divisor x) k
undef_child t k = elim k [ ]

-- a side that is Undef, among two
pub left_undefined : (a c : Tree) → is_undef a ≡ true → has_undef (two a c) ≡ true
left_undefined a c e = or_left (is_undef a) (is_undef c || false) e

pub right_undefined : (a c : Tree) → is_undef c ≡ true → has_undef (two a c) ≡ true
right_undefined a c e = or_right (is_undef a) (is_undef c || false) (or_left (is_undef c) false e)

leaf_no_children : {A : Type 0} (u : Tree) → has_undef (children_of u) ≡ true → is_leaf u ≡ true → A
leaf_no_children u h k = grind arith

-- a node with an Undef child
pub undefined_answer : (u : Tree) → has_undef (children_of u) ≡ true → IsNodeAnswer u undef
undefined_answer u h = grind (arith, undef_reduced, no_names, keeps, undef_part, undef_child, undef_inside, undef_has_no_value, rationals_defined, undef_room, undef_root_room, leaf_no_children)

-- ---- leaves

-- a tree that is its own answer
own_answer : (t : Tree) → is_reduced t ≡ true → (has_no_value t ≡ true → t ≡ undef) → (has_number t ≡ true → has_no_value t ≡ false → is_number t ≡ true)
    → (are_rationals (children_of t) ≡ true → IsPlainAnswer (plain_value t) t)
    → KeepsNodeRoom (node_count t) t t → (is_half_num (exponent_in t) ≡ true → KeepsRootRoom (base_in t) t) → ((h l : ℕ) → HoldsNode t h l → IsFactorHeld t h l) → IsNodeAnswer t t
own_answer t r u n p k o a = record { reduces = reduces (Rewrites-refl t) r; undefined = u; number = n; rational = p; room = k; root_room = o; held = λ d. a; leaf = λ h. refl }

pub number_answer : (q : Fraction) → IsNodeAnswer (num q) (num q)
number_answer q = own_answer (num q) (number_reduced q) (λ h. cc) (λ h n. rational_number q) (λ h. refl) (same_room (num q) (λ gs s. s)) (λ h. cc) (λ h l k. k)

pub symbol_answer : (x : List ℕ) → IsNodeAnswer (symbol x) (symbol x)
symbol_answer x = own_answer (symbol x) (symbol_reduced x) (λ h. cc) (λ h n. cc) (λ h. tt) (same_room (symbol x) (λ gs s. s)) (λ h. cc) (λ h l k. k)

pub undef_answer : IsNodeAnswer undef undef
undef_answer = own_answer undef undef_reduced (λ h. refl) (λ h n. cc) (λ h. refl) (same_room undef (λ gs s. s)) (λ h. cc) (λ h l k. k)

-- ---- sums, products, powers and roots

pub sum_answer : (ts : Trees) (r : Tree) → IsSumAnswer ts r → KeepsSumBounds ts r → (are_rationals ts ≡ true → IsPlainAnswer (plain_value (add ts)) r) → IsNodeAnswer (add ts) r
sum_answer ts r a b p = record { reduces = a.reduces; undefined = λ h. undef_words r (a.undefined ∙ h); number = λ h n. a.number h; rational = p; room = sum_room ts r b.room; root_room = λ h. cc; held = λ d h l x. tree_factor r a.reduces.reduced d (b.held h l (sym a.undefined ∙ d) x); leaf = λ h. cc }

pub product_answer : (ts : Trees) (r : Tree) → IsReducedProduct ts r → (are_rationals ts ≡ true → IsPlainAnswer (plain_value (mult ts)) r) → IsNodeAnswer (mult ts) r
product_answer ts r a p = record { reduces = a.reduces; undefined = a.undefined; number = λ h n. a.number h; rational = p; room = node_room (mult ts) r (λ gs s. s) a.room; root_room = λ h. cc; held = a.held; leaf = λ h. cc }

pub power_answer : (b e r : Tree) → IsReducedPower b e r → (are_rationals (two b e) ≡ true → IsPlainAnswer (plain_value (power b e)) r) → IsNodeAnswer (power b e) r
power_answer b e r a p = record { reduces = a.reduces; undefined = a.undefined; number = a.number; rational = p; room = node_room (power b e) r (λ gs s. s) a.room; root_room = a.root_room; held = power_answer_held b e r a; leaf = λ h. cc }

pub root_answer : (a r : Tree) → is_reduced a ≡ true → IsRootAnswer a r → ((gs : List ℕ) → SpansTree gs (root a) → SpansTree gs r)
    → IfRational a (λ q. int_is_negative q.num ≡ false → IsNoLargerThanRoot q (value r)) → IsNodeAnswer (root a) r
root_answer a r x h s m = record { reduces = h.reduces; undefined = λ e. undef_words r (h.undefined ∙ e); number = h.number; rational = λ e. tt; room = root_node_room a r h s; root_room = λ k. cc; held = λ d i l k. root_answer_held a r x h m k.1 d k.0; leaf = λ k. cc }

-- a node that is worth a rational
pub worth_answer : (t : Tree) (q : Fraction) → rewrites.KeepsMeanings t (num q) → has_no_value t ≡ false → is_half_num (exponent_in t) ≡ false → is_leaf t ≡ false
    → (are_rationals (children_of t) ≡ true → IsPlainAnswer (plain_value t) (num q)) → ((h l : ℕ) → HoldsNode t h l → IsFactorHeld (num q) h l) → IsNodeAnswer t (num q)
worth_answer t q m d n l p k = record {
  reduces = record { reduced = number_reduced q; no_new_name = no_names t (num q) refl; meanings = keeps m };
  undefined = λ h. contrary h d;
  number = λ h x. rational_number q;
  rational = p;
  room = number_room t q;
  root_room = λ h. contrary h n;
  held = λ x. k;
  leaf = λ h. contrary h l;
}

pub empty_sum_answer : (r : Tree) → r ≡ num zero_fraction → IsNodeAnswer (add none) r
empty_sum_answer r e = subst (IsNodeAnswer (add none)) (sym e) (worth_answer (add none) zero_fraction rewrites.empty_sum refl refl refl (λ h. tt) (λ h l k. zero_held h l))

pub empty_product_answer : (r : Tree) → r ≡ num one_fraction → IsNodeAnswer (mult none) r
empty_product_answer r h = grind (arith, number_reduced, no_names, keeps, rational_number, number_room, one_held)

-- ---- opposites

neg_rewrites : (a : Tree) → Rewrites (neg a) (mult (two (num minus_one_fraction) a))
neg_rewrites a = record { no_new_name = record { name = λ x c. one_name (names a) x c }; meanings = keeps (rewrites.neg_as_product a) }
  where
    one_name : {X : Type 0} (xs : List X) (x : X) → Contains (xs ++ []) x → Contains xs x
    one_name xs x c = subst (λ ys. Contains ys x) (append-nil xs) c

module _ (a r : Tree) (fit : (q : Fraction) → a ≡ num q → fraction_fits q ≡ true) where
  neg_value : (q : Fraction) → a ≡ num q → plain_value (mult (two (num minus_one_fraction) a)) ≡ exactly (negative q)
  neg_value q h = grind (arith, opposite_value)

  pub neg_answer : IsNodeAnswer (mult (two (num minus_one_fraction) a)) r → IsNodeAnswer (neg a) r
  neg_answer h = record {
    reduces = reduces_after (neg_rewrites a) h.reduces;
    undefined = λ e. h.undefined (or_left (is_undef a) false e);
    number = λ n d.
        h.number (and_from (is_number (num minus_one_fraction)) (is_number a && true) (rational_number minus_one_fraction) (and_from (is_number a) true n refl)) (or_from (is_undef a) false d refl);
    rational = λ e.
        let (q, is) = as_num a (and_parts (is_num a) true e).0 in
        let w : IsPlainAnswer (exactly (negative q)) r = subst (λ (v : PlainValue). IsPlainAnswer v r) (neg_value q is) (h.rational e) in
        subst (λ (t : Tree). IsPlainAnswer (plain_value (neg t)) r) (sym is) w;
    room = opposite_room a r h.room;
    root_room = λ k. cc;
    held = λ d m l k. h.held d m l (opposite_factors a k);
    leaf = λ k. cc;
  }

  pub neg_overflow : (o : Overflow) → IsNodeOverflow (mult (two (num minus_one_fraction) a)) o → IsNodeOverflow (neg a) o
  neg_overflow o h = grind (arith, as_num, and_parts, neg_value)

-- ---- differences

sub_rewrites : (a b c : Tree) → Reduces (neg b) c → Rewrites (sub a b) (add (two a c))
sub_rewrites a b c h = record {
  no_new_name = record { name = λ x m. both (names a) (names b) (names a) (names c ++ []) (λ y k. k) (λ y k. h.no_new_name.name y (subst (λ ys. Contains ys y) (append-nil (names c)) k)) x m };
  meanings =
      keeps (rewrites.KeepsMeanings-trans (rewrites.sub_as_neg a b)
      (rewrites.KeepsMeanings-sum_more (rewrites.KeepsMeanings-refl a) (rewrites.KeepsMeanings-sum_more (kept h.meanings) (rewrites.KeepsMeanings-refl (add none)))));
}

pub two_rationals : (p q : Fraction) (a c : Tree) → a ≡ num p → c ≡ num q → are_rationals (two a c) ≡ true
two_rationals p q a c e f = λ i. is_num (e i) && (is_num (f i) && true)

-- the plain value of a sum or product of two rationals
computed : (v : PlainValue) → (elim v [ exactly x ↦ exactly x | undefined ↦ undefined | overflow o a b ↦ overflow o a b | nothing ↦ nothing ]) ≡ v
computed v = grind arith

pub product_value : (p q : Fraction) → plain_value (mult (two (num p) (num q))) ≡ calculated mul_op p q
product_value p q = computed (calculated mul_op p q)

-- two rationals by their tests
pub record AreTwo (a b : Tree) : Type 0 where
  pub left : Fraction
  pub right : Fraction
  pub left-is : a ≡ num left
  pub right-is : b ≡ num right

pub are_two : (a b : Tree) → are_rationals (two a b) ≡ true → AreTwo a b
are_two a b e =
    let (p, x) = as_num a (and_parts (is_num a) (is_num b && true) e).0 in
    let (q, y) = as_num b (and_parts (is_num b) true (and_parts (is_num a) (is_num b && true) e).1).0 in
    record { left = p; right = q; left-is = x; right-is = y }

one_rational : (a : Tree) (q : Fraction) → a ≡ num q → are_rationals (more a none) ≡ true
one_rational a q e = λ i. is_num (e i) && true

module _ (a b c : Tree) (known : IsNodeAnswer (neg b) c) where
  -- the opposite of a rational
  opposite_is : (q : Fraction) → b ≡ num q → c ≡ num (negative q)
  opposite_is q e = subst (λ (t : Tree). IsPlainAnswer (plain_value (neg t)) c) e (known.rational (one_rational b q e))

  difference_value : (d : AreTwo a b) → plain_value (add (two a c)) ≡ plain_value (sub a b)
  difference_value d = grind (arith, opposite_is, computed)

  sides_rational : are_rationals (two a b) ≡ true → are_rationals (two a c) ≡ true
  sides_rational e = let d = are_two a b e in two_rationals d.left (negative d.right) a c d.left-is (opposite_is d.right d.right-is)

  pub sub_answer : (r : Tree) → IsNodeAnswer (add (two a c)) r → IsNodeAnswer (sub a b) r
  sub_answer r h = record {
    reduces = reduces_after (sub_rewrites a b c known.reduces) h.reduces;
    undefined = λ e. by (or_cases (is_undef a) (is_undef b) e);
    number = λ n d.
        let number : is_number c ≡ true = known.number (and_parts (is_number a) (is_number b) n).1 (or_parts (is_undef a) (is_undef b) d).1 in
        h.number (and_from (is_number a) (is_number c && true) (and_parts (is_number a) (is_number b) n).0 (and_from (is_number c) true number refl))
        (or_from (is_undef a) (is_undef c || false) (or_parts (is_undef a) (is_undef b) d).0 (or_from (is_undef c) false (number_defined c number) refl));
    rational = λ e. subst (λ (v : PlainValue). IsPlainAnswer v r) (difference_value (are_two a b e)) (h.rational (sides_rational e));
    room = difference_room a b c r known.room h.room;
    root_room = λ k. cc;
    held = λ d m l k. let e = answer_defined (two a c) r h.undefined d in h.held d m l (two_terms a c e k.left (known.held (second_side a c e) k.k k.n k.right) k.high k.low);
    leaf = λ k. cc;
  }
    where
      by : (is_undef a ≡ true) ⊎ (is_undef b ≡ true) → r ≡ undef
      by (inl e) = h.undefined (left_undefined a c e)
      by (inr e) = h.undefined (right_undefined a c (undef_test c (known.undefined e)))

  -- the sum does not fit
  pub sub_overflow : (o : Overflow) → IsNodeOverflow (add (two a c)) o → has_undef (two a b) ≡ false → IsNodeOverflow (sub a b) o
  sub_overflow o h k = grind (arith, difference_value, are_two, sides_rational)

-- the opposite of a rational fits
pub opposite_overflow : (a b : Tree) (o : Overflow) → IsNodeOverflow (neg b) o → has_undef (two a b) ≡ false → IsNodeOverflow (sub a b) o
opposite_overflow a b o h k = grind (arith, are_two, one_rational)
