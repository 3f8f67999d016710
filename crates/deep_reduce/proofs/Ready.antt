-- A node over the answers of its children, from the tree as it was.
use Rattle.std.proofs.Common.{◌≡◌, ℕ, true, Ok, Err, Result, refl, sym, arith, IfErr, List, length, ◌^◌, ◌+◌, false, ◌<◌, Bool, if◌then◌else◌, ap, inl, inr, nat_le}
use Rattle.deep_reduce.proofs.Shared.{eqb-true, is_reduced, are_reduced, is_half_num, Tree, num, symbol, undef, Trees, none, more, count, nodes, nodes_of, root_size, sizes, has_undef, AreFewBits}
use Rattle.deep_reduce.proofs.Shared.{HoldsNode, HasNodesFor, SpansNode, IsNodeAnswer, IsNodeOverflow, IsReducedFrom, MayLack, MayOverflow, IsCalmAtZero, SpansRootOf, LacksBelow, OfFull, base_in}
use Rattle.deep_reduce.proofs.Shared.{exponent_in, Overflow, IsNext, is_leaf, nth, children_of, IfOverflow, NumberFault, simple_room, all_written_bytes, and_from, leb-true, leb-false, all_simple}
use Rattle.deep_reduce.proofs.{Shared.{high, low, bits, most_bits, unbounded_bits, append, cases_Bool, bits_limit}, ChildRooms.{all_small, child_room, node_lacks}, NodeAnswers.{node_answered}}
use Rattle.deep_reduce.proofs.NodeRewrites.{AreReducedFrom, IsOver, over_number, over_symbol, over_undef, over_sum, over_product, over_power, over_root, over_neg, over_sub, over_div}
use Rattle.deep_reduce.proofs.{Overflowing.{first_overflow, last_overflow}, PlainNodes.{child_overflow, overflowed_plain}, Steps.{number_answer, symbol_answer, undef_answer}, TreeBits.{holds_over}}
use Rattle.reduce_walk.proofs.{Bytes.{root_over}, Bits.{child_bits, own_bits}}
use Rattle.reduce_walk.specs.Answers.{IsOver as IsOverAnswers}
use Rattle.tree_handles.specs.declared.fault.NumberFault.TheVariants as number

-- ---- leaves

over_leaf : (t : Tree) → is_leaf t ≡ true → IsOver t t
over_leaf t h = grind (arith, over_number, over_symbol, over_undef)

leaf_answer : (t : Tree) → is_leaf t ≡ true → IsNodeAnswer t t
leaf_answer (num q) h = number_answer q
leaf_answer (symbol x) h = symbol_answer x
leaf_answer undef h = undef_answer
leaf_answer t h = grind arith

pub leaf_reduced : (t : Tree) → is_leaf t ≡ true → IsReducedFrom t t
leaf_reduced t h = node_answered t t t (over_leaf t h) (leaf_answer t h)

-- ---- the node over its children's answers

over_one_child : (N : Tree → Tree) (ts us : Trees) → count ts ≡ 1 → AreReducedFrom ts us → ((a c : Tree) → IsReducedFrom a c → IsOver (N a) (N c)) → IsOver (N (nth 0 ts)) (N (nth 0 us))
over_one_child N none us e h k = absurd (omega arith)
over_one_child N (more t none) none e h k = absurd h
over_one_child N (more t none) (more u us) e h k = k t u h.0
over_one_child N (more t (more s ts)) us e h k = absurd (omega arith)

over_two_children : (N : Tree → Tree → Tree) (ts us : Trees) → count ts ≡ 2 → AreReducedFrom ts us → ((a c b d : Tree) → IsReducedFrom a c → IsReducedFrom b d → IsOver (N a b) (N c d))
    → IsOver (N (nth 0 ts) (nth 1 ts)) (N (nth 0 us) (nth 1 us))
over_two_children N none us e h k = absurd (omega arith)
over_two_children N (more t none) us e h k = absurd (omega arith)
over_two_children N (more t (more s ts)) none e h k = absurd h
over_two_children N (more t (more s ts)) (more u none) e h k = absurd h.1
over_two_children N (more t (more s ts)) (more u (more v us)) e h k = k t u s v h.0 h.1.0

pub answers_reduced : (ts us : Trees) → AreReducedFrom ts us → are_reduced us ≡ true
answers_reduced none none h = refl
answers_reduced (more t ts) (more u us) h = and_from (is_reduced u) (are_reduced us) h.0.reduces.reduced (answers_reduced ts us h.1)
answers_reduced ts us h = absurd h

pub over_answers : {t u : Tree} → IsOverAnswers IsReducedFrom t u → IsOver t u
over_answers h = grind (arith, over_number, over_symbol, over_undef, over_sum, over_product, over_two_children, eqb-true, over_power, over_one_child, over_root, over_neg, over_sub, over_div)

-- ---- bits beyond those within which all fit

simple_bits : (t : Tree) → all_simple t ≡ true → bits t ≡ most_bits t
simple_bits t s = ap (λ (b : Bool). if b then most_bits t else unbounded_bits) s

other_bits : (t : Tree) → all_simple t ≡ false → bits t ≡ unbounded_bits
other_bits t s = ap (λ (b : Bool). if b then most_bits t else unbounded_bits) s

pub child_beyond : (t : Tree) (before : Trees) (c : Tree) (rest : Trees) → children_of t ≡ append before (more c rest) → bits_limit < bits c → bits_limit < bits t
child_beyond t before c rest e l = elim (cases_Bool (all_simple t)) [
  | inl s ↦ omega (arith, l, simple_bits t s, simple_bits c (child_room t before c rest e s).simple, child_bits t before c rest e)
  | inr s ↦ omega (arith, other_bits t s)
]

-- a node that few bits hold fits
pub node_beyond : (t u : Tree) → IsOver t u → ((h l : ℕ) → (has_undef (children_of u) ≡ false → HoldsNode u h l) → AreFewBits h l → ⊥) → bits_limit < bits t
node_beyond t u h fits = elim (cases_Bool (all_simple t)) [ inl s ↦ simple s (nat_le (bits t) bits_limit) refl | inr s ↦ omega (arith, other_bits t s) ]
  where
    simple : all_simple t ≡ true → (b : Bool) → nat_le (bits t) bits_limit ≡ b → bits_limit < bits t
    simple s false e = leb-false (bits t) bits_limit e
    simple s true e = absurd (fits (high t) (low t) (holds_over t u s h) (omega (arith, leb-true (bits t) bits_limit e, simple_bits t s, own_bits t)))

-- ---- a child that is not reduced

pub child_lacks : (t c : Tree) (before done behind : Trees) (bytes : ℕ) → IsNext IsReducedFrom t before done c behind → MayLack c bytes → MayLack t (bytes + (root_size t + sizes done + sizes behind))
child_lacks t c before done behind bytes h k = grind (arith, child_room, root_over, all_small, all_written_bytes)

pub child_overflows : (t c : Tree) (before done behind : Trees) (place : ℕ) (o : Overflow) → IsNext IsReducedFrom t before done c behind → MayOverflow c place o
    → MayOverflow t (nodes_of before + place) o
child_overflows t c before done behind place o n h = record {
  plain = child_overflow before done c behind o n.answered h.plain t n.split;
  at_its_node = λ v. let f = first_overflow before done c behind o n.answered h.plain t n.split v in omega (arith, f.many-is, h.at_its_node f.overflows);
  beyond_bits = child_beyond t before c behind n.split h.beyond_bits;
}

-- ---- the node's own step is refused

module _ (t u : Tree) (r : Result ℕ NumberFault) (h : IsOver t u) where
  pub step_lacks : (bytes : ℕ) → ((gs : List ℕ) (ns : List (List ℕ)) (n : ℕ) → HasNodesFor n u → IsCalmAtZero ns u → SpansNode gs u → IfErr r (LacksBelow (simple_room n (2 ^ length gs)) bytes))
      → ((gs : List ℕ) (n : ℕ) → HasNodesFor n u → is_half_num (exponent_in u) ≡ true → SpansRootOf gs (base_in u) → IfErr r (LacksBelow (simple_room n (2 ^ length gs)) bytes))
      → IfErr r (OfFull (λ full. MayLack t bytes))
  step_lacks bytes room half = by r room half
    where
      by : (x : Result ℕ NumberFault) → ((gs : List ℕ) (ns : List (List ℕ)) (n : ℕ) → HasNodesFor n u → IsCalmAtZero ns u → SpansNode gs u → IfErr x (LacksBelow (simple_room n (2 ^ length gs)) bytes))
          → ((gs : List ℕ) (n : ℕ) → HasNodesFor n u → is_half_num (exponent_in u) ≡ true → SpansRootOf gs (base_in u) → IfErr x (LacksBelow (simple_room n (2 ^ length gs)) bytes))
          → IfErr x (OfFull (λ full. MayLack t bytes))
      by (Ok a) k l = tt
      by (Err (number.Full full)) k l = λ s. node_lacks t u bytes (number.Full full) h s (record { room = k; root_room = l })
      by (Err (number.Overflow o)) k l = tt

  pub step_overflows : IfOverflow r (IsNodeOverflow u) → ((h l : ℕ) → (has_undef (children_of u) ≡ false → HoldsNode u h l) → AreFewBits h l → IfOverflow r (λ o. ⊥))
      → IfOverflow r (MayOverflow t (nodes t))
  step_overflows x fits = by r x fits
    where
      by : (y : Result ℕ NumberFault) → IfOverflow y (IsNodeOverflow u) → ((h l : ℕ) → (has_undef (children_of u) ≡ false → HoldsNode u h l) → AreFewBits h l → IfOverflow y (λ o. ⊥))
          → IfOverflow y (MayOverflow t (nodes t))
      by (Ok a) k l = tt
      by (Err (number.Full full)) k l = tt
      by (Err (number.Overflow o)) k l = record { plain = overflowed_plain t u o h k; at_its_node = λ v. sym (last_overflow t u h v); beyond_bits = node_beyond t u h l }
