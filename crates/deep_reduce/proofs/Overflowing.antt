-- The nodes up to the first overflow of plain trees, where the children before are answered.
use Rattle.deep_reduce.proofs.Shared.{◌≡◌, ℕ, ◌+◌, Bool, true, false, ◌&&◌, refl, sym, ap, ◌∙◌, subst, if◌then◌else◌, arith, IsPlainAnswer, IsPlainOverflow, PlainValue, exactly, nothing, Gathered}
use Rattle.deep_reduce.proofs.Shared.{decided, values, gather, folded, on_one, on_two, divided, calculated, powered, plain_of, plain_of_children, is_plain, are_plain, plain_value, add_op, mul_op}
use Rattle.deep_reduce.proofs.Shared.{negative, Tree, add, mult, power, root, neg, sub, div, Trees, none, more, append, nodes, nodes_of, IsReducedFrom, Overflow, children_of, and_parts, is_overflow}
use Rattle.deep_reduce.proofs.{Shared.{with_child, nodes_to_overflow, nodes_among}, NodeRewrites.{AreReducedFrom, IsOver, over_sum, over_product, over_power, over_neg, over_sub, over_div}}
use Rattle.deep_reduce.proofs.PlainNodes.{is_plain_value, Decides, child_decides, pair_plain, no_child}

-- ---- one child

-- it overflows where no fewer values are told
over_there : (t : Tree) (within behind : ℕ) → is_overflow (plain_of t) ≡ true → with_child t within behind ≡ within
over_there t within behind e = ap (λ (b : Bool). if b then within else nodes t + behind) e

over_behind : (t : Tree) (within behind : ℕ) → is_overflow (plain_of t) ≡ false → with_child t within behind ≡ nodes t + behind
over_behind t within behind e = ap (λ (b : Bool). if b then within else nodes t + behind) e

-- an answered tree has no overflow
no_overflow : (v : PlainValue) (u : Tree) → IsPlainAnswer v u → is_overflow v ≡ false
no_overflow v u h = grind arith

answered : (t u : Tree) → is_plain t ≡ true → IsReducedFrom t u → is_overflow (plain_of t) ≡ false
answered t u p h = no_overflow (plain_of t) u (subst (λ (v : PlainValue). IsPlainAnswer v u) (is_plain_value t p) h.plain)

-- ---- children

-- an overflow is what the children decide
abbrev IsOverflowed : Gathered → Type 0
IsOverflowed (decided v) = is_overflow v ≡ true
IsOverflowed (values qs) = ⊥

-- a child that overflows, and those behind it
this_overflows : (v : PlainValue) (g : Gathered) (o : Overflow) → IsPlainOverflow v o → IsOverflowed (gather v g) → is_overflow v ≡ true
this_overflows v g o h k = grind arith

-- an answered child, and those behind it
later_overflow : (v : PlainValue) (u : Tree) (g : Gathered) → IsPlainAnswer v u → IsOverflowed (gather v g) → IsOverflowed g
later_overflow v u g h k = grind arith

-- the first child that overflows is this one
pub record IsFirstOverflow (done : Trees) (t : Tree) (many : ℕ) : Type 0 where
  pub overflows : is_overflow (plain_value t) ≡ true
  pub many-is : many ≡ nodes_of done + nodes_to_overflow t

child_first : (done answers : Trees) (t : Tree) (rest : Trees) (o : Overflow) → AreReducedFrom done answers → are_plain (append done (more t rest)) ≡ true → IsPlainOverflow (plain_value t) o
    → IsOverflowed (plain_of_children (append done (more t rest))) → IsFirstOverflow done t (nodes_among (append done (more t rest)))
child_first none none t rest o h e k x = grind (arith, and_parts, is_plain_value, over_there, this_overflows)
child_first (more s ss) (more u us) t rest o h e k x =
    let all = append ss (more t rest) in
    let a : IsPlainAnswer (plain_of s) u = subst (λ (v : PlainValue). IsPlainAnswer v u) (is_plain_value s ((and_parts (is_plain s) (are_plain all) e).0)) h.0.plain in
    let r = child_first ss us t rest o h.1 (and_parts (is_plain s) (are_plain all) e).1 k (later_overflow (plain_of s) u (plain_of_children all) a x) in
    record { overflows = r.overflows; many-is = omega (arith, over_behind s (nodes_to_overflow s) (nodes_among all) (no_overflow (plain_of s) u a), r.many-is) }
child_first ss us t rest o h e k x = absurd h

-- none of them overflows
none_overflows : (ts us : Trees) → are_plain ts ≡ true → AreReducedFrom ts us → nodes_among ts ≡ nodes_of ts + 1
none_overflows none none e h = omega arith
none_overflows (more t ts) (more u us) e h =
    let m : with_child t (nodes_to_overflow t) (nodes_among ts) ≡ nodes t + nodes_among ts = over_behind t (nodes_to_overflow t) (nodes_among ts) (answered t u (and_parts (is_plain t) (are_plain ts) e).0 h.0) in
    omega (arith, m, none_overflows ts us (and_parts (is_plain t) (are_plain ts) e).1 h.1)
none_overflows ts us e h = absurd h

-- ---- nodes

-- a tree whose value overflows is plain
overflow_plain : (t : Tree) → is_overflow (plain_value t) ≡ true → is_plain t ≡ true
overflow_plain t e = by (is_plain t) refl e
  where
    by : (b : Bool) → is_plain t ≡ b → is_overflow (if b then plain_of t else nothing) ≡ true → is_plain t ≡ true
    by true p x = p
    by false p x = cc

-- and is worth what its children and its operation are
overflow_of : (t : Tree) → is_overflow (plain_value t) ≡ true → is_overflow (plain_of t) ≡ true
overflow_of t e = sym (ap is_overflow (is_plain_value t (overflow_plain t e))) ∙ e

decided_overflows : (F : Gathered → PlainValue) (g : Gathered) (o : Overflow) → ((v : PlainValue) → F (decided v) ≡ v) → Decides g o → is_overflow (F g) ≡ true → IsOverflowed g
decided_overflows F g o h k a = grind arith

module _ (done answers : Trees) (t : Tree) (rest : Trees) (o : Overflow) (reduced : AreReducedFrom done answers) (told : IsPlainOverflow (plain_value t) o) where
  by_first : (F : Gathered → PlainValue) (ts : Trees) → ((v : PlainValue) → F (decided v) ≡ v) → ts ≡ append done (more t rest) → are_plain ts ≡ true → is_overflow (F (plain_of_children ts)) ≡ true
      → IsFirstOverflow done t (nodes_among ts)
  by_first F ts d e p x =
      let all = append done (more t rest) in
      let q : are_plain all ≡ true = sym (ap are_plain e) ∙ p in
      let y : is_overflow (F (plain_of_children all)) ≡ true = sym (ap (λ (us : Trees). is_overflow (F (plain_of_children us))) e) ∙ x in
      subst (λ (us : Trees). IsFirstOverflow done t (nodes_among us)) (sym e)
      (child_first done answers t rest o reduced q told (decided_overflows F (plain_of_children all) o d (child_decides done answers t rest o reduced q told) y))

  -- where a node overflows, and the children before one that does were answered, that one is the first
  pub first_overflow : (n : Tree) → children_of n ≡ append done (more t rest) → is_overflow (plain_value n) ≡ true → IsFirstOverflow done t (nodes_to_overflow n)
  first_overflow (add ts) e x = by_first (folded add_op) ts (λ v. refl) e (overflow_plain (add ts) x) (overflow_of (add ts) x)
  first_overflow (mult ts) e x = by_first (folded mul_op) ts (λ v. refl) e (overflow_plain (mult ts) x) (overflow_of (mult ts) x)
  first_overflow (power a b) e x =
      by_first (on_two (λ p q. powered p q.num q.den)) (more a (more b none)) (λ v. refl) e (pair_plain (is_plain a) (is_plain b) (overflow_plain (power a b) x)) (overflow_of (power a b) x)
  first_overflow (root a) e x = cc
  first_overflow (neg a) e x = by_first (on_one (λ q. exactly (negative q))) (more a none) (λ v. refl) e (ap (λ (b : Bool). b && true) (overflow_plain (neg a) x)) (overflow_of (neg a) x)
  first_overflow (sub a b) e x =
      by_first (on_two (λ p q. calculated add_op p (negative q))) (more a (more b none)) (λ v. refl) e (pair_plain (is_plain a) (is_plain b) (overflow_plain (sub a b) x)) (overflow_of (sub a b) x)
  first_overflow (div a b) e x = by_first (on_two divided) (more a (more b none)) (λ v. refl) e (pair_plain (is_plain a) (is_plain b) (overflow_plain (div a b) x)) (overflow_of (div a b) x)
  first_overflow n e x = absurd (no_child done t rest e)

one_counted : (a c : Tree) → is_plain a ≡ true → IsReducedFrom a c → nodes_among (more a none) ≡ nodes a + 1
one_counted a c p h = omega (arith, none_overflows (more a none) (more c none) (ap (λ (b : Bool). b && true) p) (h, tt))

two_counted : (a b c d : Tree) → is_plain a && is_plain b ≡ true → IsReducedFrom a c → IsReducedFrom b d → nodes_among (more a (more b none)) ≡ nodes a + nodes b + 1
two_counted a b c d p h k = omega (arith, none_overflows (more a (more b none)) (more c (more d none)) (pair_plain (is_plain a) (is_plain b) p) (h, (k, tt)))

-- a node over answered children overflows as the last of its nodes
pub last_overflow : (t u : Tree) → IsOver t u → is_overflow (plain_value t) ≡ true → nodes_to_overflow t ≡ nodes t
last_overflow t u (over_sum ts us h) x = omega (arith, none_overflows ts us (overflow_plain (add ts) x) h)
last_overflow t u (over_product ts us h) x = omega (arith, none_overflows ts us (overflow_plain (mult ts) x) h)
last_overflow t u (over_power b c e f h l) x = omega (arith, two_counted b e c f (overflow_plain (power b e) x) h l)
last_overflow t u (over_neg a c h) x = omega (arith, one_counted a c (overflow_plain (neg a) x) h)
last_overflow t u (over_sub a c b e h l) x = omega (arith, two_counted a b c e (overflow_plain (sub a b) x) h l)
last_overflow t u (over_div a c b e h l) x = omega (arith, two_counted a b c e (overflow_plain (div a b) x) h l)
last_overflow t u k x = cc
