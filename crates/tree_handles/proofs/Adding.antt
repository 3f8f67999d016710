-- A root that becomes a child.
use Rattle.tree_handles.proofs.Shared.{◌≡◌, ℕ, ◌+◌, ◌-◌, ◌<◌, ◌≤◌, ◌⊎◌, inl, inr, List, [], ◌∷◌, ◌++◌, length, drop, refl, sym, ap, ◌∙◌, arith, append_assoc, true, false, cases_Bool, length-append}
use Rattle.tree_handles.proofs.Shared.{Node, State, has, used, place_of, with_children, since, moved, IsBoundary, used-append, or_is_false, has-append, append-nil, moved_left, moved_right, forest}
use Rattle.tree_handles.proofs.Shared.{Stands, IsCounted, Forest, join, arity, node_of, flatten, first_trees, rest_trees, with_nth, AllNodes, holds, kids_of, with_kids, has_root, root_tree}
use Rattle.tree_handles.proofs.{Shared.{without_root, skip, IsChildPlace}, Forests.{flatten-join, flatten-first_rest, arity-with_nth, has-flatten}}
use Rattle.tree_handles.proofs.{Parts.{IsAt, at, IsRekid, rekid, kid_place, IsTold, span, live_node}, Releases.arity_le, Roots.{top, root_held, root_arity, root_id-root_tree}}
use Rattle.tree_handles.proofs.{Counted.{counted-with_kids, all-with_nth, all-root_tree, all-without_root, all-kids_of}, Joins.{holds-join, kids_of-join_left, kids_of-join_right, with_kids-join_left}}
use Rattle.tree_handles.proofs.Joins.{with_kids-join_right}

-- where the parent is to the left the block goes left
add_left : (i n from end to : ℕ) (left t : Forest) (d ns : List Node) (p : IsAt i left) → arity t ≡ 1 → ns ≡ flatten left ++ (flatten t ++ d) → n ≤ arity (kids_of i left)
    → from ≡ used (flatten left) → end ≡ used (flatten left) + used (flatten t)
    → IsBoundary to ns → since to ns ≡ skip n (drop 1 (since (place_of i ns) ns)) → (to ≤ from) × IsRekid i (arity (kids_of i left) + 1) (with_nth n t (kids_of i left)) left [] d
    (moved from (end - from) to ns)
add_left i n from end to left t d ns p single e h hf he b r =
    let k = kids_of i left in
    let m = node_of p.label k in
    let c = flatten t in
    let x = p.before ++ (m ∷ flatten (first_trees n k)) in
    let z = flatten (rest_trees n k) ++ p.after in
    let whole : ns ≡ p.before ++ (m ∷ (flatten k ++ (p.after ++ (c ++ d)))) = e ∙ ap (λ (l : List Node). l ++ (c ++ d)) p.flat ∙ simp append_assoc in
    let q = kid_place i n to k m p.before (p.after ++ (c ++ d)) ns p.first p.id-is whole h b r in
    let left-is : flatten left ≡ x ++ z = p.flat ∙ ap (λ (l : List Node). p.before ++ (m ∷ (l ++ p.after))) (flatten-first_rest n k) ∙ simp append_assoc in
    let size : used (flatten left) ≡ used x + used z = ap used left-is ∙ used-append x z in
    let parts : ns ≡ x ++ (z ++ (c ++ d)) = e ∙ ap (λ (l : List Node). l ++ (c ++ d)) left-is ∙ append_assoc x z (c ++ d) in
    let move : moved from (end - from) to ns ≡ p.before ++ (m ∷ (flatten (with_nth n t k) ++ (p.after ++ d))) =
    ap (moved from (end - from) to) parts ∙ moved_left x z c d from (end - from) to q.place-is (hf ∙ size) (omega arith) ∙ simp (append_assoc, flatten-join) in
    (omega (arith, q.place-is), rekid i (arity k + 1) (with_nth n t k) left p [] d _ refl (omega (arith, arity-with_nth n t k h, single)) move)

-- where it is to the right the block goes right
add_right : (i n from end to : ℕ) (t right : Forest) (a ns : List Node) (p : IsAt i right) → arity t ≡ 1 → from ≤ end → 0 < end - from → ns ≡ a ++ (flatten t ++ flatten right)
    → n ≤ arity (kids_of i right) → has i a ≡ false → has i (flatten t) ≡ false → from ≡ used a → end ≡ used a + used (flatten t)
    → IsBoundary to ns → since to ns ≡ skip n (drop 1 (since (place_of i ns) ns)) → (end ≤ to) × IsRekid i (arity (kids_of i right) + 1) (with_nth n t (kids_of i right)) right a []
    (moved from (end - from) to ns)
add_right i n from end to t right a ns p single order some e h ha hc hf he b r =
    let k = kids_of i right in
    let m = node_of p.label k in
    let c = flatten t in
    let y = p.before ++ (m ∷ flatten (first_trees n k)) in
    let z = flatten (rest_trees n k) ++ p.after in
    let front = a ++ (c ++ p.before) in
    let clear : has i front ≡ false = has-append i a (c ++ p.before) ∙ or_is_false _ _ ha (has-append i c p.before ∙ or_is_false _ _ hc p.first) in
    let whole : ns ≡ front ++ (m ∷ (flatten k ++ p.after)) = e ∙ ap (λ (l : List Node). a ++ (c ++ l)) p.flat ∙ simp append_assoc in
    let q = kid_place i n to k m front p.after ns clear p.id-is whole h b r in
    let right-is : flatten right ≡ y ++ z = p.flat ∙ ap (λ (l : List Node). p.before ++ (m ∷ (l ++ p.after))) (flatten-first_rest n k) ∙ simp append_assoc in
    let grouped : front ++ (m ∷ flatten (first_trees n k)) ≡ a ++ (c ++ y) = simp append_assoc in
    let size : to ≡ used a + used c + used y = q.place-is ∙ ap used grouped ∙ omega (arith, used-append a (c ++ y), used-append c y) in
    let move : moved from (end - from) to ns ≡ (a ++ p.before) ++ (m ∷ (flatten (with_nth n t k) ++ (p.after ++ []))) =
    ap (moved from (end - from) to) (e ∙ ap (λ (l : List Node). a ++ (c ++ l)) right-is) ∙ moved_right a c y z from (end - from) to hf (omega arith) size some
    ∙ simp (append_assoc, append-nil, flatten-join) in
    (omega (arith, size), rekid i (arity k + 1) (with_nth n t k) right p a [] _ ha (omega (arith, arity-with_nth n t k h, single)) move)

-- what the two calls leave, and what they ask for
pub record IsAdded (i n from end to : ℕ) (f new : Forest) (ns : List Node) : Type 0 where
  pub outside : (to ≤ from) ⊎ (from + (end - from) ≤ to)
  pub live : has i (moved from (end - from) to ns) ≡ true
  pub few : arity (kids_of i f) + 1 ≤ length ns
  pub forest : with_children i (arity (kids_of i f) + 1) (moved from (end - from) to ns) ≡ flatten new

pub added : (n i ci from end to : ℕ) (s : State) → Stands s → holds i (forest s) ≡ true → has_root ci (forest s) ≡ true → holds i (root_tree ci (forest s)) ≡ false → IsTold ci from end s.nodes
    → IsChildPlace n i to s
    → IsAdded i n from end to (forest s) (with_kids i (with_nth n (root_tree ci (forest s)) (kids_of i (forest s))) (without_root ci (forest s))) s.nodes
added n i ci from end to s st live root apart told h =
    let f = forest s in
    let ns = s.nodes in
    let r = top ci f root in
    let t = root_tree ci f in
    let left = r.left in
    let right = r.right in
    let single = root_arity ci f root in
    let split : f ≡ join left (join t right) = r.whole ∙ ap (λ (y : Forest). join left (join y right)) (sym r.tree-is) in
    let whole : ns ≡ flatten left ++ (flatten t ++ flatten right) = st.flat ∙ ap flatten split ∙ simp flatten-join in
    let x = span ci from end t (flatten left) (flatten right) ns st.pool.distinct single (root_id-root_tree ci f root) whole told in
    let p = at i f live in
    let k = kids_of i f in
    let long = ap length (st.flat ∙ p.flat) in
    let few : arity k + 1 ≤ length ns = omega (arith, long, length-append p.before (node_of p.label k ∷ (flatten k ++ p.after)), length-append (flatten k) p.after, arity_le k) in
    elim (cases_Bool (holds i left)) [
      | inl inside ↦
          let kids : kids_of i f ≡ kids_of i left = ap (kids_of i) split ∙ kids_of-join_left i left (join t right) inside in
          let y = add_left i n from end to left t (flatten right) ns (at i left inside) single whole (omega (arith, h.within, ap arity kids)) x.start x.stop h.boundary h.rest in
          record {
            outside = inl y.0;
            live = y.1.live;
            few = few;
            forest = rw (kids, r.without, with_kids-join_left i (with_nth n t (kids_of i left)) left right inside)
                (y.1.nodes ∙ sym (flatten-join (with_kids i (with_nth n t (kids_of i left)) left) right));
          }
      | inr outside ↦
          let last : holds i right ≡ true = in_last i left t right outside apart (ap (holds i) (sym split) ∙ live) in
          let kids : kids_of i f ≡ kids_of i right = ap (kids_of i) split ∙ kids_of-join_right i left (join t right) outside ∙ kids_of-join_right i t right apart in
          let y = add_right i n from end to t right (flatten left) ns (at i right last) single (omega (arith, x.some)) (omega (arith, x.some)) whole (omega (arith, h.within, ap arity kids))
          (has-flatten i left ∙ outside) (has-flatten i t ∙ apart) x.start x.stop h.boundary h.rest in
          record {
            outside = inr (omega (arith, y.0, x.some));
            live = y.1.live;
            few = few;
            forest = rw (kids, r.without, with_kids-join_right i (with_nth n t (kids_of i right)) left right outside) (y.1.nodes ∙ simp (append-nil, flatten-join));
          }
    ]
  where
    in_last : (i : ℕ) (a b c : Forest) → holds i a ≡ false → holds i b ≡ false → holds i (join a (join b c)) ≡ true → holds i c ≡ true
    in_last i a b c p q h = grind (arith, holds-join)

-- what is added is counted
pub counted_added : (i n ci : ℕ) (s : State) → Stands s → AllNodes IsCounted (with_kids i (with_nth n (root_tree ci (forest s)) (kids_of i (forest s))) (without_root ci (forest s)))
counted_added i n ci s st = grind (arith, counted-with_kids, all-with_nth, all-root_tree, all-kids_of, all-without_root)

pub root_live : (i : ℕ) (s : State) → Stands s → has_root i (forest s) ≡ true → has i s.nodes ≡ true
root_live i s st h = live_node i s st (root_held i (forest s) h)
