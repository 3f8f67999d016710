-- The plain value of a node, from its children's answers.
use Rattle.deep_reduce.proofs.Shared.{arith, ◌≡◌, Bool, true, false, ◌&&◌, List, [], ◌∷◌, refl, ap, ◌∙◌, subst, if◌then◌else◌, add_op, mul_op, Fraction, negative, PlainValue, exactly, undefined}
use Rattle.deep_reduce.proofs.Shared.{overflow, nothing, Gathered, decided, values, gather, folded, on_one, on_two, divided, calculated, powered, plain_of, plain_of_children, is_plain, are_plain}
use Rattle.deep_reduce.proofs.Shared.{plain_value, Tree, num, add, mult, power, root, neg, sub, div, Trees, none, more, append, is_num, has_undef, are_rationals, IsNodeAnswer, IsNodeOverflow}
use Rattle.deep_reduce.proofs.{Shared.{has_no_value, IsReducedFrom, Overflow, IsPlainAnswer, IsPlainOverflow, children_of, and_parts, or_right, and_from}, NodeRewrites.{AreReducedFrom, IsOver}}
use Rattle.deep_reduce.proofs.NodeRewrites.{over_number, over_symbol, over_undef, over_sum, over_product, over_power, over_root, over_neg, over_sub, over_div}

-- a fact of a plain value holds where there is none, and where it is computed
pub as_plain : (P : PlainValue → Type 0) (t : Tree) → P nothing → (is_plain t ≡ true → P (plain_of t)) → P (plain_value t)
as_plain P t n h = by (is_plain t) refl
  where
    by : (b : Bool) → is_plain t ≡ b → P (if b then plain_of t else nothing)
    by true e = h e
    by false e = n

pub is_plain_value : (t : Tree) → is_plain t ≡ true → plain_value t ≡ plain_of t
is_plain_value t e = ap (λ (b : Bool). if b then plain_of t else nothing) e

-- ---- answered children

abbrev nums : List Fraction → Trees
nums [] = none
nums (q ∷ qs) = more (num q) (nums qs)

-- what the children's answers tell of the values that are gathered
abbrev Told : Gathered → Trees → Type 0
Told (decided (exactly q)) us = ⊥
Told (decided undefined) us = has_undef us ≡ true
Told (decided (overflow op a b)) us = ⊥
Told (decided nothing) us = Unit {0}
Told (values qs) us = us ≡ nums qs

more_told : (v : PlainValue) (u : Tree) (g : Gathered) (us : Trees) → IsPlainAnswer v u → Told g us → Told (gather v g) (more u us)
more_told v u g us h k = grind (arith, or_right)

one_told : (t u : Tree) (g : Gathered) (us : Trees) → is_plain t ≡ true → IsReducedFrom t u → Told g us → Told (gather (plain_of t) g) (more u us)
one_told t u g us e h k = more_told (plain_of t) u g us (subst (λ (v : PlainValue). IsPlainAnswer v u) (is_plain_value t e) h.plain) k

none_told : Told (values []) none
none_told = refl

children_told : (ts us : Trees) → are_plain ts ≡ true → AreReducedFrom ts us → Told (plain_of_children ts) us
children_told none none e h = none_told
children_told (more t ts) (more u us) e h = one_told t u (plain_of_children ts) us (and_parts (is_plain t) (are_plain ts) e).0 h.0 (children_told ts us (and_parts (is_plain t) (are_plain ts) e).1 h.1)
children_told ts us e h = absurd h

-- a fact of the node's value, by what its children tell
by_told : (P : PlainValue → Type 0) (F : Gathered → PlainValue) (g : Gathered) (us : Trees) → ((v : PlainValue) → F (decided v) ≡ v) → P nothing → (has_undef us ≡ true → P undefined)
    → ((qs : List Fraction) → us ≡ nums qs → P (F (values qs))) → Told g us → P (F g)
by_told P F g us d n u v h = grind arith

-- ---- rationals

nums_rational : (qs : List Fraction) → are_rationals (nums qs) ≡ true
nums_rational [] = refl
nums_rational (q ∷ qs) = nums_rational qs

nums_plain : (qs : List Fraction) → are_plain (nums qs) ≡ true
nums_plain [] = refl
nums_plain (q ∷ qs) = nums_plain qs

nums_values : (qs : List Fraction) → plain_of_children (nums qs) ≡ values qs
nums_values [] = refl
nums_values (q ∷ qs) = ap (gather (exactly q)) (nums_values qs)

sum_value : (qs : List Fraction) → plain_value (add (nums qs)) ≡ folded add_op (values qs)
sum_value qs = is_plain_value (add (nums qs)) (nums_plain qs) ∙ ap (folded add_op) (nums_values qs)

product_value : (qs : List Fraction) → plain_value (mult (nums qs)) ≡ folded mul_op (values qs)
product_value qs = is_plain_value (mult (nums qs)) (nums_plain qs) ∙ ap (folded mul_op) (nums_values qs)

-- ---- the value of a node

-- a fact of the value of a node over rationals holds of the node over those children
abbrev IsKept : (PlainValue → Type 0) → Tree → Type 0
IsKept P u = are_rationals (children_of u) ≡ true → P (plain_value u)

module _ (P : PlainValue → Type 0) (n : P nothing) where
  sum_kept : (ts us : Trees) → AreReducedFrom ts us → (has_undef us ≡ true → P undefined) → IsKept P (add us) → P (plain_value (add ts))
  sum_kept ts us h d k = as_plain P (add ts) n (λ e. by_told P (folded add_op) (plain_of_children ts) us (λ v. refl) n d
      (λ qs s. subst P (sum_value qs) (subst (λ (x : Trees). P (plain_value (add x))) s (k (ap are_rationals s ∙ nums_rational qs)))) (children_told ts us e h))

  product_kept : (ts us : Trees) → AreReducedFrom ts us → (has_undef us ≡ true → P undefined) → IsKept P (mult us) → P (plain_value (mult ts))
  product_kept ts us h d k = as_plain P (mult ts) n (λ e. by_told P (folded mul_op) (plain_of_children ts) us (λ v. refl) n d
      (λ qs s. subst P (product_value qs) (subst (λ (x : Trees). P (plain_value (mult x))) s (k (ap are_rationals s ∙ nums_rational qs)))) (children_told ts us e h))

  -- two children
  by_pair : (f : Fraction → Fraction → PlainValue) (c d : Tree) (qs : List Fraction) → more c (more d none) ≡ nums qs → ((p q : Fraction) → c ≡ num p → d ≡ num q → P (f p q))
      → P (on_two f (values qs))
  by_pair f c d qs s k = grind arith

  pair_kept : (f : Fraction → Fraction → PlainValue) (a b c d : Tree) → is_plain a && is_plain b ≡ true → IsReducedFrom a c → IsReducedFrom b d
      → (has_undef (more c (more d none)) ≡ true → P undefined)
      → ((p q : Fraction) → c ≡ num p → d ≡ num q → P (f p q)) → P (on_two f (gather (plain_of a) (gather (plain_of b) (values []))))
  pair_kept f a b c d e h k u v = by_told P (on_two f) (gather (plain_of a) (gather (plain_of b) (values []))) (more c (more d none)) (λ x. refl) n u (λ qs s. by_pair f c d qs s v)
      (one_told a c (gather (plain_of b) (values [])) (more d none) (and_parts (is_plain a) (is_plain b) e).0 h (one_told b d (values []) none (and_parts (is_plain a) (is_plain b) e).1 k none_told))

  pair_rational : (c d : Tree) (p q : Fraction) → c ≡ num p → d ≡ num q → are_rationals (more c (more d none)) ≡ true
  pair_rational c d p q x y = λ i. is_num (x i) && (is_num (y i) && true)

  pair_at : (N : Tree → Tree → Tree) (c d : Tree) (p q : Fraction) → c ≡ num p → d ≡ num q → P (plain_value (N c d)) → P (plain_value (N (num p) (num q)))
  pair_at N c d p q x y h = subst P (λ i. plain_value (N (x i) (y i))) h

  sub_kept : (a b c d : Tree) → IsReducedFrom a c → IsReducedFrom b d → (has_undef (more c (more d none)) ≡ true → P undefined) → IsKept P (sub c d) → P (plain_value (sub a b))
  sub_kept a b c d h k u v = as_plain P (sub a b) n (λ e. pair_kept (λ p q. calculated add_op p (negative q)) a b c d e h k u (λ p q x y. pair_at sub c d p q x y (v (pair_rational c d p q x y))))

  div_kept : (a b c d : Tree) → IsReducedFrom a c → IsReducedFrom b d → (has_undef (more c (more d none)) ≡ true → P undefined) → IsKept P (div c d) → P (plain_value (div a b))
  div_kept a b c d h k u v = as_plain P (div a b) n (λ e. pair_kept divided a b c d e h k u (λ p q x y. pair_at div c d p q x y (v (pair_rational c d p q x y))))

  power_kept : (a b c d : Tree) → IsReducedFrom a c → IsReducedFrom b d → (has_undef (more c (more d none)) ≡ true → P undefined) → IsKept P (power c d) → P (plain_value (power a b))
  power_kept a b c d h k u v = as_plain P (power a b) n (λ e. pair_kept (λ p q. powered p q.num q.den) a b c d e h k u (λ p q x y. pair_at power c d p q x y (v (pair_rational c d p q x y))))

  -- one child
  by_one : (f : Fraction → PlainValue) (c : Tree) (qs : List Fraction) → more c none ≡ nums qs → ((p : Fraction) → c ≡ num p → P (f p)) → P (on_one f (values qs))
  by_one f c qs s k = grind arith

  neg_kept : (a c : Tree) → IsReducedFrom a c → (has_undef (more c none) ≡ true → P undefined) → IsKept P (neg c) → P (plain_value (neg a))
  neg_kept a c h u v = as_plain P (neg a) n (λ e. by_told P (on_one (λ q. exactly (negative q))) (gather (plain_of a) (values [])) (more c none) (λ x. refl) n u
      (λ qs s. by_one (λ q. exactly (negative q)) c qs s (λ p x. subst P (λ i. plain_value (neg (x i))) (v (λ i. is_num (x i) && true))))
      (one_told a c (values []) none e h none_told))

  node_kept : (t u : Tree) → IsOver t u → (has_undef (children_of u) ≡ true → P undefined) → IsKept P u → P (plain_value t)
  node_kept t u (over_number q) d k = k refl
  node_kept t u (over_symbol x) d k = n
  node_kept t u over_undef d k = k refl
  node_kept t u (over_sum ts us h) d k = sum_kept ts us h d k
  node_kept t u (over_product ts us h) d k = product_kept ts us h d k
  node_kept t u (over_power b c e f h l) d k = power_kept b e c f h l d k
  node_kept t u (over_root a c h) d k = n
  node_kept t u (over_neg a c h) d k = neg_kept a c h d k
  node_kept t u (over_sub a c b e h l) d k = sub_kept a b c e h l d k
  node_kept t u (over_div a c b e h l) d k = div_kept a b c e h l d k

pub undef_has_no_value : (u : Tree) → has_undef (children_of u) ≡ true → has_no_value u ≡ true
undef_has_no_value u h = grind arith

-- the answer of a node over reduced children is that of the plain value
pub answered_plain : (t u r : Tree) → IsOver t u → IsNodeAnswer u r → IsPlainAnswer (plain_value t) r
answered_plain t u r h a = node_kept (λ v. IsPlainAnswer v r) tt t u h (λ e. a.undefined (undef_has_no_value u e)) a.rational

-- and so is its overflow
pub overflowed_plain : (t u : Tree) (o : Overflow) → IsOver t u → IsNodeOverflow u o → IsPlainOverflow (plain_value t) o
overflowed_plain t u o h a = node_kept (λ v. IsPlainOverflow v o) tt t u h (λ e. let no : has_undef (children_of u) ≡ false = a.defined in absurd (cc)) a.rational

-- ---- an overflow in a child

abbrev pub Decides : Gathered → Overflow → Type 0
Decides (decided v) o = IsPlainOverflow v o
Decides (values qs) o = ⊥

this_decides : (v : PlainValue) (g : Gathered) (o : Overflow) → IsPlainOverflow v o → Decides (gather v g) o
this_decides v g o h = grind arith

later_decides : (v : PlainValue) (u : Tree) (g : Gathered) (o : Overflow) → IsPlainAnswer v u → Decides g o → Decides (gather v g) o
later_decides v u g o h k = grind arith

pub child_decides : (done answers : Trees) (t : Tree) (rest : Trees) (o : Overflow) → AreReducedFrom done answers → are_plain (append done (more t rest)) ≡ true → IsPlainOverflow (plain_value t) o
    → Decides (plain_of_children (append done (more t rest))) o
child_decides none none t rest o h e k =
    this_decides (plain_of t) (plain_of_children rest) o (subst (λ (v : PlainValue). IsPlainOverflow v o) (is_plain_value t (and_parts (is_plain t) (are_plain rest) e).0) k)
child_decides (more x xs) (more u us) t rest o h e k =
    let all = append xs (more t rest) in
    later_decides (plain_of x) u (plain_of_children all) o (subst (λ (v : PlainValue). IsPlainAnswer v u) (is_plain_value x (and_parts (is_plain x) (are_plain all) e).0) h.0.plain)
    (child_decides xs us t rest o h.1 (and_parts (is_plain x) (are_plain all) e).1 k)
child_decides xs us t rest o h e k = absurd h

decides_value : (F : Gathered → PlainValue) (g : Gathered) (o : Overflow) → ((v : PlainValue) → F (decided v) ≡ v) → Decides g o → IsPlainOverflow (F g) o
decides_value F g o h k = grind arith

pub pair_plain : (a b : Bool) → a && b ≡ true → a && (b && true) ≡ true
pair_plain a b h = grind (arith, and_from)

pub no_child : (ts : Trees) (t : Tree) (rest : Trees) → none ≡ append ts (more t rest) → ⊥
no_child none t rest e = cc
no_child (more x xs) t rest e = cc

module _ (done answers : Trees) (t : Tree) (rest : Trees) (o : Overflow) (reduced : AreReducedFrom done answers) (told : IsPlainOverflow (plain_value t) o) where
  by_child : (F : Gathered → PlainValue) (ts : Trees) → ((v : PlainValue) → F (decided v) ≡ v) → ts ≡ append done (more t rest) → are_plain ts ≡ true → IsPlainOverflow (F (plain_of_children ts)) o
  by_child F ts h k a = grind (arith, decides_value, child_decides)

  -- a child's overflow, where those before it were answered, is the node's
  pub child_overflow : (n : Tree) → children_of n ≡ append done (more t rest) → IsPlainOverflow (plain_value n) o
  child_overflow (add ts) e = as_plain (λ v. IsPlainOverflow v o) (add ts) tt (λ p. by_child (folded add_op) ts (λ v. refl) e p)
  child_overflow (mult ts) e = as_plain (λ v. IsPlainOverflow v o) (mult ts) tt (λ p. by_child (folded mul_op) ts (λ v. refl) e p)
  child_overflow (power a b) e =
      as_plain (λ v. IsPlainOverflow v o) (power a b) tt (λ p. by_child (on_two (λ p q. powered p q.num q.den)) (more a (more b none)) (λ v. refl) e (pair_plain (is_plain a) (is_plain b) p))
  child_overflow (root a) e = tt
  child_overflow (neg a) e = as_plain (λ v. IsPlainOverflow v o) (neg a) tt (λ p. by_child (on_one (λ q. exactly (negative q))) (more a none) (λ v. refl) e (ap (λ (x : Bool). x && true) p))
  child_overflow (sub a b) e =
      as_plain (λ v. IsPlainOverflow v o) (sub a b) tt (λ p. by_child (on_two (λ p q. calculated add_op p (negative q))) (more a (more b none)) (λ v. refl) e (pair_plain (is_plain a) (is_plain b) p))
  child_overflow (div a b) e = as_plain (λ v. IsPlainOverflow v o) (div a b) tt (λ p. by_child (on_two divided) (more a (more b none)) (λ v. refl) e (pair_plain (is_plain a) (is_plain b) p))
  child_overflow n e = absurd (no_child done t rest e)
