-- Blocks of trees that change places, and a node that goes from between its children.
use Rattle.tree_handles.proofs.Shared.{◌≡◌, ℕ, ◌+◌, ◌-◌, ◌<◌, ◌≤◌, List, [], ◌∷◌, ◌++◌, length, drop, sym, refl, ap, ◌∙◌, subst, arith, append_assoc, true, false, append-nil, length-append, Node}
use Rattle.tree_handles.proofs.Shared.{size_of, has, used, place_of, first_of, with_children, AreDistinct, since, moved, without, exchanged, IsBoundary, State, used-append, size_from}
use Rattle.tree_handles.proofs.Shared.{AreDistinct-parts, exchanged-append, moved_right, without-append, IsChildAt, AreSiblings, Ends, Forest, empty, tree, join, arity, kids, root_id, node_of}
use Rattle.tree_handles.proofs.Shared.{flatten, first_trees, rest_trees, tree_nth, set_nth, swapped_nth, merged_nth, AllNodes, kids_of, with_kids, has_root, root_tree, without_root, put, forest}
use Rattle.tree_handles.proofs.{Shared.{Stands, IsCounted, skip}, Counted.{all-kids, all-kids_of, counted-with_kids, all-tree_nth, all-set_nth, all-root_tree, all-without_root}, Nths.{pair}}
use Rattle.tree_handles.proofs.{Releases.{arity_le}, Joins.{holds-left}, Distinct.{Distinct, distinct, child_tree, clear_front, held_parent, put-root, tree_at-root}}
use Rattle.tree_handles.proofs.{Roots.{top, root_arity, root_id-root_tree}, Forests.{flatten-join, join-empty, has-flatten, arity-join, arity-set_nth, arity-tree_nth, nth_tree, all-join, all-left}}
use Rattle.tree_handles.proofs.{Forests.{all-right}, Parts.{at, IsTold, span, kid, kid_here, reput, rekid}}

-- ---- two children change places

-- what the exchange of two blocks asks for and leaves
pub record IsExchange (first mid second end : ℕ) (new : Forest) (ns : List Node) : Type 0 where
  pub low : first ≤ mid
  pub apart : mid ≤ second
  pub high : second ≤ end
  pub done : exchanged first mid second end ns ≡ flatten new

pub swaps : (i n m x y first mid second end : ℕ) (s : State) → Stands s → n < m → AreSiblings i n x m y (forest s) → IsTold x first mid s.nodes → IsTold y second end s.nodes
    → IsExchange first mid second end (with_kids i (swapped_nth n m (kids_of i (forest s))) (forest s)) s.nodes
swaps i n m x y first mid second end s st lt h q r =
    let f = forest s in
    let ns = s.nodes in
    let k = kids_of i f in
    let p = at i f (held_parent n i f h.first.within) in
    let z = pair n m k lt h.second.within in
    let t = tree_nth n k in
    let u = tree_nth m k in
    let one = kid n i x f p h.first in
    let two = kid m i y f p h.second in
    let node = node_of p.label k in
    let a = p.before ++ (node ∷ flatten (first_trees n k)) in
    let b = flatten z.between in
    let d = flatten z.behind ++ p.after in
    let whole : ns ≡ a ++ (flatten t ++ (b ++ (flatten u ++ d))) = st.flat ∙ p.flat ∙ ap (λ (l : List Node). p.before ++ (node ∷ (l ++ p.after))) (ap flatten z.whole)
    ∙ simp (append_assoc, flatten-join) in
    let left = span x first mid t a (b ++ (flatten u ++ d)) ns st.pool.distinct one.single one.root whole q in
    let right = span y second end u (a ++ (flatten t ++ b)) d ns st.pool.distinct two.single two.root (whole ∙ simp append_assoc) r in
    let sizes : used (a ++ (flatten t ++ b)) ≡ used a + used (flatten t) + used b = omega (arith, used-append a (flatten t ++ b), used-append (flatten t) b) in
    let inner = arity-set_nth m t k h.second.within in
    let count : arity (swapped_nth n m k) ≡ arity k = omega (arith, arity-set_nth n u (set_nth m t k) (omega (arith, inner, one.single)), inner, one.single, two.single) in
    record {
      low = omega (arith, left.some);
      apart = omega (arith, left.stop, right.start, sizes);
      high = omega (arith, right.some);
      done = ap (exchanged first mid second end) whole ∙ exchanged-append a (flatten t) b (flatten u) d first mid second end left.start left.stop (omega (arith, right.start, sizes))
          (omega (arith, right.stop, sizes))
          ∙ sym (reput i (swapped_nth n m k) f p count ∙ ap (λ (l : List Node). p.before ++ (node ∷ (l ++ p.after))) (ap flatten z.swapped) ∙ simp (append_assoc, flatten-join));
    }

pub counted_swapped : (i n m : ℕ) (s : State) → Stands s → AllNodes IsCounted (with_kids i (swapped_nth n m (kids_of i (forest s))) (forest s))
counted_swapped i n m s st = grind (arith, all-kids_of, counted-with_kids, all-set_nth, all-tree_nth)

-- ---- a root that stands last and a child among the trees before it change places

pub exchange : (i n x j first mid second end : ℕ) (t others : Forest) (s : State) → Stands s → Ends j t others (forest s) → IsChildAt n i x others → IsTold x first mid s.nodes
    → IsTold j second end s.nodes
    → IsExchange first mid second end (join (with_kids i (set_nth n t (kids_of i others)) others) (tree_nth n (kids_of i others))) s.nodes
exchange i n x j first mid second end t others s st h k q r =
    let ns = s.nodes in
    let ks = kids_of i others in
    let p = at i others (held_parent n i others k.within) in
    let z = kid n i x others p k in
    let u = tree_nth n ks in
    let a = p.before ++ (node_of p.label ks ∷ flatten (first_trees n ks)) in
    let b = flatten (rest_trees 1 (rest_trees n ks)) ++ p.after in
    let c = flatten u in
    let d = flatten t in
    let new = set_nth n t ks in
    let whole : ns ≡ a ++ (c ++ (b ++ (d ++ []))) = st.flat ∙ ap flatten h.whole ∙ flatten-join others t ∙ ap (λ (l : List Node). l ++ d) z.flat ∙ simp (append_assoc, append-nil) in
    let left = span x first mid u a (b ++ (d ++ [])) ns st.pool.distinct z.single z.root whole q in
    let right = span j second end t (a ++ (c ++ b)) [] ns st.pool.distinct h.alone h.root (whole ∙ simp append_assoc) r in
    let sizes : used (a ++ (c ++ b)) ≡ used a + used c + used b = omega (arith, used-append a (c ++ b), used-append c b) in
    record {
      low = omega (arith, left.some);
      apart = omega (arith, left.stop, right.start, sizes);
      high = omega (arith, right.some);
      done = ap (exchanged first mid second end) whole ∙ exchanged-append a c b d [] first mid second end left.start left.stop (omega (arith, right.start, sizes)) (omega (arith, right.stop, sizes))
          ∙ sym (flatten-join (with_kids i new others) u ∙ ap (λ (l : List Node). l ++ c) (reput i new others p (omega (arith, arity-set_nth n t ks k.within, h.alone)))
          ∙ simp (append_assoc, append-nil, flatten-join));
    }

front_distinct : (s : State) (t others : Forest) → Stands s → forest s ≡ join others t → Distinct others
front_distinct s t others st e = (AreDistinct-parts (flatten others) (flatten t) (subst AreDistinct (ap flatten e ∙ flatten-join others t) (distinct s st))).0

-- both are nodes
pub known_live : (i n x j : ℕ) (t others : Forest) (s : State) → Stands s → Ends j t others (forest s) → IsChildAt n i x others → has x s.nodes ≡ true
known_live i n x j t others s h k l = grind (arith, child_tree, front_distinct, has-flatten, holds-left)

pub counted_exchanged : (i n : ℕ) (t others : Forest) (s : State) → Stands s → forest s ≡ join others t → AllNodes IsCounted (join (with_kids i (set_nth n t (kids_of i others)) others) (tree_nth n (kids_of i others)))
counted_exchanged i n t others s st e = grind (arith, all-left, all-right, all-kids_of, all-join, counted-with_kids, all-set_nth, all-tree_nth)

-- a root's child
pub exchanged_last : (i n h : ℕ) (t others : Forest) (s u : State) → Stands s → Stands u → forest s ≡ join others t → n < arity (kids_of i others) → forest u ≡ join (with_kids i (set_nth n t (kids_of i others)) others) (tree_nth n (kids_of i others))
    → h ≡ root_id (tree_nth n (kids_of i others)) → has_root i others ≡ true → Ends h (tree_nth n (kids (root_tree i others))) (put i (set_nth n t (kids (root_tree i others))) others) (forest u)
exchanged_last i n h t others s u k l e m p q r = grind (arith, front_distinct, tree_at-root, put-root, arity-tree_nth, clear_front)

-- ---- a child's node goes, and its children stay

pub record IsMerge (i n from next : ℕ) (s : State) : Type 0 where
  pub inside : from < used s.nodes
  pub children : (first_of (since from s.nodes)).children ≡ arity (kids (tree_nth n (kids_of i (forest s))))
  pub few : arity (kids_of i (forest s)) + arity (kids (tree_nth n (kids_of i (forest s)))) ≤ length s.nodes
  pub live : next ≡ from + size_of (first_of (since from s.nodes)) → has i (without from next s.nodes) ≡ true
  pub done : next ≡ from + size_of (first_of (since from s.nodes)) → with_children i (arity (kids_of i (forest s)) - 1 + arity (kids (tree_nth n (kids_of i (forest s))))) (without from next s.nodes) ≡ flatten (with_kids i (merged_nth n (kids_of i (forest s))) (forest s))

pub merges : (i n from next : ℕ) (s : State) → Stands s → n < arity (kids_of i (forest s)) → IsBoundary from s.nodes → since from s.nodes ≡ skip n (drop 1 (since (place_of i s.nodes) s.nodes)) → IsMerge i n from next s
merges i n from next s st within b r =
    let f = forest s in
    let ns = s.nodes in
    let k = kids_of i f in
    let p = at i f (held_parent n i f within) in
    let q = nth_tree n k within in
    let node = node_of p.label k in
    let one = flatten (first_trees n k) in
    let c = node_of q.label q.below in
    let y = flatten q.below in
    let z = flatten q.behind in
    let x = p.before ++ (node ∷ one) in
    let below : kids (tree_nth n k) ≡ q.below = ap (λ (t : Forest). kids (first_trees 1 t)) q.rest in
    let whole : ns ≡ x ++ (c ∷ (y ++ (z ++ p.after))) = st.flat ∙ p.flat ∙ ap (λ (t : Forest). p.before ++ (node ∷ (flatten t ++ p.after))) q.whole ∙ simp (append_assoc, flatten-join) in
    let place = kid_here i n from s p st (omega arith) b r in
    let first : first_of (since from ns) ≡ c = ap first_of place.rest ∙ ap (λ (t : Forest). first_of (flatten t ++ p.after)) q.rest in
    let new = merged_nth n k in
    let new-is : flatten new ≡ one ++ (y ++ z) = ap (λ (t : Forest). flatten (set_nth n t k)) below ∙ ap (λ (t : Forest). flatten (join (first_trees n k) (join q.below (rest_trees 1 t)))) q.rest
    ∙ simp flatten-join in
    let new-arity : arity new + 1 ≡ arity k + arity (kids (tree_nth n k)) = arity-set_nth n (kids (tree_nth n k)) k within in
    let counts : arity k + arity (kids (tree_nth n k)) ≤ length one + 1 + length y + length z =
    omega (arith, arity_le q.below, arity_le q.behind, arity_le (first_trees n k), ap arity q.whole, arity-join (first_trees n k) (tree q.label q.below q.behind), ap arity below) in
    let gone : next ≡ from + size_of (first_of (since from ns)) → without from next ns ≡ p.before ++ (node ∷ (flatten new ++ (p.after ++ []))) =
    λ h. ap (without from next) whole ∙ without-append x (c ∷ []) (y ++ (z ++ p.after)) from next place.place-is (omega (arith, h, ap size_of first, place.place-is))
    ∙ sym (ap (λ (l : List Node). p.before ++ (node ∷ (l ++ (p.after ++ [])))) new-is ∙ simp (append_assoc, append-nil)) in
    let done = λ (h : next ≡ from + size_of (first_of (since from ns))). rekid i (arity k - 1 + arity (kids (tree_nth n k))) new f p [] [] _ refl (omega (arith, new-arity, within)) (gone h) in
    record {
      inside = omega (arith, ap used whole, used-append x (c ∷ (y ++ (z ++ p.after))), place.place-is, size_from c);
      children = ap (λ (j : Node). j.children) first ∙ sym (ap arity below);
      few = omega (arith, ap length whole, length-append x (c ∷ (y ++ (z ++ p.after))), length-append p.before (node ∷ one), length-append y (z ++ p.after), length-append z p.after, counts);
      live = λ h. (done h).live;
      done = λ h. (done h).nodes ∙ append-nil (flatten (with_kids i new f));
    }

pub counted_merged : (i n : ℕ) (s : State) → Stands s → AllNodes IsCounted (with_kids i (merged_nth n (kids_of i (forest s))) (forest s))
counted_merged i n s st = grind (arith, all-kids, all-kids_of, counted-with_kids, all-set_nth, all-tree_nth)

-- ---- a root between those before it and those behind it

pub record IsBlock (i from end : ℕ) (s : State) : Type 0 where
  pub left : Forest
  pub right : Forest
  pub whole : forest s ≡ join left (join (root_tree i (forest s)) right)
  pub clear : has_root i left ≡ false
  pub begins : from ≡ used (flatten left)
  pub here : since from s.nodes ≡ flatten (root_tree i (forest s)) ++ flatten right
  pub ends : since end s.nodes ≡ flatten right
  pub stop : end ≤ used s.nodes
  -- it goes behind all others
  pub done : moved from (end - from) (used s.nodes) s.nodes ≡ flatten (join (without_root i (forest s)) (root_tree i (forest s)))
  pub stays : end ≡ used s.nodes → forest s ≡ join (without_root i (forest s)) (root_tree i (forest s))

pub no_bytes : (f : Forest) → used (flatten f) ≡ 0 → f ≡ empty
no_bytes empty e = refl
no_bytes (tree l k r) e = absurd (omega (arith, e, size_from (node_of l k)))

pub block : (i from end : ℕ) (s : State) → Stands s → has_root i (forest s) ≡ true → IsTold i from end s.nodes → IsBlock i from end s
block i from end s st root q =
    let f = forest s in
    let ns = s.nodes in
    let x = top i f root in
    let t = root_tree i f in
    let l = flatten x.left in
    let c = flatten t in
    let d = flatten x.right in
    let split : f ≡ join x.left (join t x.right) = x.whole ∙ ap (λ (y : Forest). join x.left (join y x.right)) (sym x.tree-is) in
    let whole : ns ≡ l ++ (c ++ d) = st.flat ∙ ap flatten split ∙ simp flatten-join in
    let y = span i from end t l d ns st.pool.distinct (root_arity i f root) (root_id-root_tree i f root) whole q in
    let size : used ns ≡ used l + used c + used d = omega (arith, ap used whole, used-append l (c ++ d), used-append c d) in
    record {
      left = x.left;
      right = x.right;
      whole = split;
      clear = x.clear;
      begins = y.start;
      here = y.here;
      ends = y.behind;
      stop = omega (arith, y.stop, size);
      done = ap (moved from (end - from) (used ns)) (whole ∙ simp append-nil) ∙ moved_right l c d [] from (end - from) (used ns) y.start (omega (arith, y.start, y.stop)) size (omega (arith, y.some))
          ∙ sym (ap (λ (g : Forest). flatten (join g t)) x.without ∙ simp (append_assoc, append-nil, flatten-join));
      stays = λ e.
          let none : x.right ≡ empty = no_bytes x.right (omega (arith, e, y.stop, size)) in
          split ∙ ap (λ (g : Forest). join x.left (join t g)) none ∙ ap (join x.left) (join-empty t) ∙ sym (ap (λ (g : Forest). join g t) (x.without ∙ ap (join x.left) none ∙ join-empty x.left));
    }

pub counted_last : (i : ℕ) (s : State) → Stands s → AllNodes IsCounted (join (without_root i (forest s)) (root_tree i (forest s)))
counted_last i s st = grind (arith, all-join, all-without_root, all-root_tree)
