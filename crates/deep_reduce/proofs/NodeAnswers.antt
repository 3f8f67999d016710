-- The answer of a node over answered children is the answer of the whole tree.
use Rattle.deep_reduce.proofs.Shared.{◌≡◌, true, false, refl, sym, subst, IsBad, IsEasy, Tree, undef, Trees, none, more, is_undef, IsPart, IsPartOf, itself, in_add, in_mult, in_base, in_exponent}
use Rattle.deep_reduce.proofs.Shared.{in_root, in_neg, in_left, in_right, in_dividend, in_divisor, first, later, has_undef, IsNodeAnswer, IsReducedFrom, reduces_after, children_of, or_left, or_right}
use Rattle.deep_reduce.proofs.{Shared.{undef_test}, EasyNodes.{answered_easy}, NodeRewrites.{AreReducedFrom, IsOver, over_sum, over_product, over_power, over_root, over_neg, over_sub, over_div}}
use Rattle.deep_reduce.proofs.{NodeRewrites.{over_rewrites}, PlainNodes.{answered_plain, undef_has_no_value}, Steps.{left_undefined, right_undefined}, TreeBits.{node_held, node_leaf}}
use Rattle.deep_reduce.proofs.TreeRooms.{node_within}

-- ---- an Easy and Bad part in a child

module _ (p : Tree) (e : IsEasy p) (b : IsBad p) where
  undef_answer : (t u : Tree) → IsReducedFrom t u → IsPart p t → is_undef u ≡ true
  undef_answer t u h k = undef_test u (h.bad_part (record { part = p; inside = k; easy = e; bad = b }))

  undef_among : (ts us : Trees) → AreReducedFrom ts us → IsPartOf p ts → has_undef us ≡ true
  undef_among none us h k = elim k [ ]
  undef_among (more t ts) none h k = absurd h
  undef_among (more t ts) (more u us) h (first k) = or_left (is_undef u) (has_undef us) (undef_answer t u h.0 k)
  undef_among (more t ts) (more u us) h (later k) = or_right (is_undef u) (has_undef us) (undef_among ts us h.1 k)

  only_undef : (c : Tree) → is_undef c ≡ true → has_undef (more c none) ≡ true
  only_undef c h = or_left (is_undef c) false h

  in_child : (t u r : Tree) → (has_undef (children_of u) ≡ true) → IsNodeAnswer u r → r ≡ undef
  in_child t u r h a = a.undefined (undef_has_no_value u h)

  -- the node itself, or one of its children
  bad_answer : (t u r : Tree) → IsOver t u → IsPart p t → IsNodeAnswer u r → (t ≡ p → r ≡ undef) → r ≡ undef
  bad_answer t u r h itself a w = w refl
  bad_answer t u r (over_sum ts us h) (in_add k) a w = in_child t u r (undef_among ts us h k) a
  bad_answer t u r (over_product ts us h) (in_mult k) a w = in_child t u r (undef_among ts us h k) a
  bad_answer t u r (over_power x c g y h l) (in_base k) a w = in_child t u r (left_undefined c y (undef_answer x c h k)) a
  bad_answer t u r (over_power x c g y h l) (in_exponent k) a w = in_child t u r (right_undefined c y (undef_answer g y l k)) a
  bad_answer t u r (over_root x c h) (in_root k) a w = in_child t u r (only_undef c (undef_answer x c h k)) a
  bad_answer t u r (over_neg x c h) (in_neg k) a w = in_child t u r (only_undef c (undef_answer x c h k)) a
  bad_answer t u r (over_sub x c y d h l) (in_left k) a w = in_child t u r (left_undefined c d (undef_answer x c h k)) a
  bad_answer t u r (over_sub x c y d h l) (in_right k) a w = in_child t u r (right_undefined c d (undef_answer y d l k)) a
  bad_answer t u r (over_div x c y d h l) (in_dividend k) a w = in_child t u r (left_undefined c d (undef_answer x c h k)) a
  bad_answer t u r (over_div x c y d h l) (in_divisor k) a w = in_child t u r (right_undefined c d (undef_answer y d l k)) a

pub node_answered : (t u r : Tree) → IsOver t u → IsNodeAnswer u r → IsReducedFrom t r
node_answered t u r h a =
    let reduced = reduces_after (over_rewrites t u h) a.reduces in
    record {
      reduces = reduced;
      easy = λ e. answered_easy t u r h a reduced.meanings e;
      bad_part = λ b. bad_answer b.part b.easy b.bad t u r h b.inside a (λ s. (answered_easy t u r h a reduced.meanings (subst IsEasy (sym s) b.easy)).undefined.1 (subst IsBad (sym s) b.bad));
      plain = answered_plain t u r h a;
      room = λ s. node_within t u r h a s;
      held = node_held t u r h a;
      leaf = node_leaf t u r h a;
    }
