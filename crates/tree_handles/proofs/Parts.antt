-- A node in a forest, with its children and what is around it.
use Rattle.tree_handles.proofs.Shared.{◌≡◌, ℕ, suc, ◌+◌, ◌-◌, ◌<◌, ◌≤◌, List, [], ◌∷◌, ◌++◌, drop, Bool, cond, eqb, refl, sym, ap, ◌∙◌, subst, arith, append_assoc, true, false, eqb-true}
use Rattle.tree_handles.proofs.Shared.{append_cancel_right, append-nil, Node, State, has, used, place_of, first_of, with_children, with_count, since, until, IsBoundary, moved, used-append}
use Rattle.tree_handles.proofs.Shared.{size_from, has-append, or_is_false, since-append, until-since, boundary-append, place_of-append, moved_right, with_children-append, with_count-append}
use Rattle.tree_handles.proofs.Shared.{forest, Stands, IsCounted, AreDistinct, Label, Forest, empty, tree, join, arity, node_of, flatten, first_trees, rest_trees, root_id, tree_nth, without_nth}
use Rattle.tree_handles.proofs.Shared.{AllNodes, holds, tree_at, kids_of}
use Rattle.tree_handles.proofs.{Shared.{with_kids, with_count_in, skip, IsChildAt}, Counted.{all-kids_of, counted-with_kids, all-without_nth, all-tree_nth}, Distinct.{held_parent, not_before}}
use Rattle.tree_handles.proofs.Forests.{all-join, has-flatten, skip-flatten, skip-first, flatten-join, flatten-first_rest, nth_parts, nth_tree, arity-tree_nth, arity-without_nth}

-- where a node stands: its children, and any in their place, are a block
pub record IsAt (i : ℕ) (f : Forest) : Type 0 where
  pub label : Label
  pub before : List Node
  pub after : List Node
  pub right : Forest
  pub id-is : label.id ≡ i
  pub first : has i before ≡ false
  pub flat : flatten f ≡ before ++ (node_of label (kids_of i f) ∷ (flatten (kids_of i f) ++ after))
  pub put : (k : Forest) → flatten (with_kids i k f) ≡ before ++ (node_of label k ∷ (flatten k ++ after))
  pub same : (k : Forest) → arity (with_kids i k f) ≡ arity f
  pub tree-is : tree_at i f ≡ tree label (kids_of i f) empty
  pub behind-is : after ≡ flatten right
  pub counted : (c : ℕ) → flatten (with_count_in i c f) ≡ before ++ (node_of (record label { count = c }) (kids_of i f) ∷ (flatten (kids_of i f) ++ after))
  pub many : (c : ℕ) → arity (with_count_in i c f) ≡ arity f

at_root : (i : ℕ) (l : Label) (k r : Forest) → eqb l.id i ≡ true → IsAt i (tree l k r)
at_root i l k r e = record {
  label = l;
  before = [];
  after = flatten r;
  right = r;
  id-is = eqb-true l.id i e;
  first = refl;
  flat = rw e refl;
  put = λ n. rw e refl;
  same = λ n. rw e refl;
  tree-is = rw e refl;
  behind-is = refl;
  counted = λ c. rw e refl;
  many = λ c. rw e refl;
}

at_below : (i : ℕ) (l : Label) (k r : Forest) → eqb l.id i ≡ false → holds i k ≡ true → IsAt i k → IsAt i (tree l k r)
at_below i l k r e h p = record {
  label = p.label;
  before = node_of l k ∷ p.before;
  after = p.after ++ flatten r;
  right = join p.right r;
  id-is = p.id-is;
  first = rw e p.first;
  flat = rw (e, h) (ap (λ (x : List Node). node_of l k ∷ (x ++ flatten r)) p.flat ∙ ap (λ (x : List Node). node_of l k ∷ x) (simp append_assoc));
  put = λ n. rw (e, h, p.same n) (ap (λ (x : List Node). node_of l k ∷ (x ++ flatten r)) (p.put n) ∙ ap (λ (x : List Node). node_of l k ∷ x) (simp append_assoc));
  same = λ n. rw (e, h) refl;
  tree-is = rw (e, h) p.tree-is;
  behind-is = ap (λ (x : List Node). x ++ flatten r) p.behind-is ∙ sym (flatten-join p.right r);
  counted = λ c. rw (e, h, p.many c) (ap (λ (x : List Node). node_of l k ∷ (x ++ flatten r)) (p.counted c) ∙ ap (λ (x : List Node). node_of l k ∷ x) (simp append_assoc));
  many = λ c. rw (e, h) refl;
}

at_behind : (i : ℕ) (l : Label) (k r : Forest) → eqb l.id i ≡ false → holds i k ≡ false → IsAt i r → IsAt i (tree l k r)
at_behind i l k r e h p =
    let behind : (x rest : List Node) → x ≡ p.before ++ rest → node_of l k ∷ (flatten k ++ x) ≡ (node_of l k ∷ (flatten k ++ p.before)) ++ rest =
    λ x rest q. ap (λ (y : List Node). node_of l k ∷ (flatten k ++ y)) q ∙ ap (λ (y : List Node). node_of l k ∷ y) (sym (append_assoc (flatten k) p.before rest)) in
    record {
      label = p.label;
      before = node_of l k ∷ (flatten k ++ p.before);
      after = p.after;
      right = p.right;
      id-is = p.id-is;
      first = rw e (has-append i (flatten k) p.before ∙ or_is_false _ _ (has-flatten i k ∙ h) p.first);
      flat = rw (e, h) (behind (flatten r) (node_of p.label (kids_of i r) ∷ (flatten (kids_of i r) ++ p.after)) p.flat);
      put = λ n. rw (e, h) (behind (flatten (with_kids i n r)) (node_of p.label n ∷ (flatten n ++ p.after)) (p.put n));
      same = λ n. rw (e, h) (ap suc (p.same n));
      tree-is = rw (e, h) p.tree-is;
      behind-is = p.behind-is;
      counted = λ c. rw (e, h) (behind (flatten (with_count_in i c r)) (node_of (record p.label { count = c }) (kids_of i r) ∷ (flatten (kids_of i r) ++ p.after)) (p.counted c));
      many = λ c. rw (e, h) (ap suc (p.many c));
    }

at_step : (i : ℕ) (l : Label) (k r : Forest) (t u : Bool) → eqb l.id i ≡ t → holds i k ≡ u → cond t true (cond u true (holds i r)) ≡ true
    → (holds i k ≡ true → IsAt i k) → (holds i r ≡ true → IsAt i r) → IsAt i (tree l k r)
at_step i l k r t u e h q m n = grind (arith, at_root, at_below, at_behind)

pub at : (i : ℕ) (f : Forest) → holds i f ≡ true → IsAt i f
at i empty h = absurd cc
at i (tree l k r) h = at_step i l k r (eqb l.id i) (holds i k) refl refl h (at i k) (at i r)

-- a boundary before a known rest
pub place_is : (at : ℕ) (ns xs ys : List Node) → IsBoundary at ns → ns ≡ xs ++ ys → since at ns ≡ ys → at ≡ used xs
place_is at ns xs ys b e r =
    let same : until at ns ≡ xs = append_cancel_right (until at ns) xs ys (ap (λ (y : List Node). until at ns ++ y) (sym r) ∙ until-since at ns ∙ e) in
    sym b ∙ ap used same

-- something stands behind a place
pub is_before : (at : ℕ) (ns ys : List Node) (n : Node) → IsBoundary at ns → since at ns ≡ n ∷ ys → at < used ns
is_before at ns ys n b r = omega (arith, ap used (until-since at ns), used-append (until at ns) (since at ns), ap used r, size_from n, b)

-- ---- a node among others, by its identifier

pub record IsFound (i : ℕ) (a b ns : List Node) : Type 0 where
  pub clear : has i a ≡ false
  pub start : place_of i ns ≡ used a
  pub here : since (place_of i ns) ns ≡ b
  pub boundary : IsBoundary (place_of i ns) ns

pub found_behind : (i : ℕ) (n : Node) (a b ns : List Node) → has i a ≡ false → n.id ≡ i → ns ≡ a ++ (n ∷ b) → IsFound i a (n ∷ b) ns
found_behind i n a b ns c is e =
    let start : place_of i ns ≡ used a = ap (place_of i) e ∙ place_of-append i a n b c is in
    record {
      clear = c;
      start = start;
      here = ap (λ (k : ℕ). since k ns) start ∙ ap (since (used a)) e ∙ since-append a (n ∷ b);
      boundary = subst (IsBoundary (place_of i ns)) (sym e) (boundary-append a (n ∷ b) (place_of i ns) start);
    }

pub found : (i : ℕ) (n : Node) (a b ns : List Node) → AreDistinct ns → n.id ≡ i → ns ≡ a ++ (n ∷ b) → IsFound i a (n ∷ b) ns
found i n a b ns d is e = found_behind i n a b ns (ap (λ (j : ℕ). has j a) (sym is) ∙ not_before a n b (subst AreDistinct e d)) is e

-- a tree among others
pub found_tree : (i : ℕ) (t : Forest) (a b ns : List Node) → AreDistinct ns → arity t ≡ 1 → root_id t ≡ i → ns ≡ a ++ (flatten t ++ b) → IsFound i a (flatten t ++ b) ns
found_tree i empty a b ns d one is e = absurd (omega arith)
found_tree i (tree l k r) a b ns d one is e = found i (node_of l k) a ((flatten k ++ flatten r) ++ b) ns d is e

pub used_some : (f : Forest) → 0 < arity f → 0 < used (flatten f)
used_some empty h = absurd (omega arith)
used_some (tree l k r) h = omega (arith, size_from (node_of l k))

-- what the calls tell of a tree: where it begins, and where it ends
pub record IsTold (i from end : ℕ) (ns : List Node) : Type 0 where
  pub start : from ≡ place_of i ns
  pub boundary : IsBoundary end ns
  pub rest : since end ns ≡ skip 1 (since from ns)

-- between the nodes before it and those behind it
pub record IsSpan (from end : ℕ) (t : Forest) (a b ns : List Node) : Type 0 where
  pub boundary : IsBoundary from ns
  pub start : from ≡ used a
  pub stop : end ≡ used a + used (flatten t)
  pub some : from < end
  pub here : since from ns ≡ flatten t ++ b
  pub behind : since end ns ≡ b

pub span : (i from end : ℕ) (t : Forest) (a b ns : List Node) → AreDistinct ns → arity t ≡ 1 → root_id t ≡ i → ns ≡ a ++ (flatten t ++ b) → IsTold i from end ns → IsSpan from end t a b ns
span i from end t a b ns d one is e q =
    let p = found_tree i t a b ns d one is e in
    let here : since from ns ≡ flatten t ++ b = ap (λ (j : ℕ). since j ns) q.start ∙ p.here in
    let count : 1 ≡ arity t + 0 = omega arith in
    let behind : since end ns ≡ b = q.rest ∙ ap (skip 1) here ∙ ap (λ (j : ℕ). skip j (flatten t ++ b)) count ∙ skip-flatten t 0 b in
    let stop : end ≡ used a + used (flatten t) = place_is end ns (a ++ flatten t) b q.boundary (e ∙ sym (append_assoc a (flatten t) b)) behind ∙ used-append a (flatten t) in
    record {
      boundary = subst (λ (j : ℕ). IsBoundary j ns) (sym q.start) p.boundary;
      start = q.start ∙ p.start;
      stop = stop;
      some = omega (arith, q.start, p.start, stop, used_some t (omega arith));
      here = here;
      behind = behind;
    }

-- ---- children among the nodes

-- the place of a child, or behind the last one, and what stands there
pub record IsKidPlace (n place : ℕ) (k : Forest) (m : Node) (a b ns : List Node) : Type 0 where
  pub place-is : place ≡ used (a ++ (m ∷ flatten (first_trees n k)))
  pub rest : since place ns ≡ flatten (rest_trees n k) ++ b

pub kid_place : (i n place : ℕ) (k : Forest) (m : Node) (a b ns : List Node) → has i a ≡ false → m.id ≡ i → ns ≡ a ++ (m ∷ (flatten k ++ b)) → n ≤ arity k
    → IsBoundary place ns → since place ns ≡ skip n (drop 1 (since (place_of i ns) ns)) → IsKidPlace n place k m a b ns
kid_place i n place k m a b ns c is e h d r =
    let rest : since place ns ≡ flatten (rest_trees n k) ++ b = r ∙ ap (λ (l : List Node). skip n (drop 1 l)) (found_behind i m a (flatten k ++ b) ns c is e).here ∙ skip-first n k b h in
    record { place-is = place_is place ns _ _ d (e ∙ ap (λ (l : List Node). a ++ (m ∷ (l ++ b))) (flatten-first_rest n k) ∙ simp append_assoc) rest; rest = rest }

-- the same of a node in a pool's forest
pub kid_here : (i n place : ℕ) (s : State) (p : IsAt i (forest s)) → Stands s → n ≤ arity (kids_of i (forest s)) → IsBoundary place s.nodes
    → since place s.nodes ≡ skip n (drop 1 (since (place_of i s.nodes) s.nodes))
    → IsKidPlace n place (kids_of i (forest s)) (node_of p.label (kids_of i (forest s))) p.before p.after s.nodes
kid_here i n place s p st h b r = kid_place i n place (kids_of i (forest s)) (node_of p.label (kids_of i (forest s))) p.before p.after s.nodes p.first p.id-is (st.flat ∙ p.flat) h b r

-- a child, with what stands before it and behind it
pub record IsKid (n i x : ℕ) (f : Forest) (p : IsAt i f) : Type 0 where
  pub flat : flatten f ≡ (p.before ++ (node_of p.label (kids_of i f) ∷ flatten (first_trees n (kids_of i f)))) ++
      (flatten (tree_nth n (kids_of i f)) ++ (flatten (rest_trees 1 (rest_trees n (kids_of i f))) ++ p.after))
  pub single : arity (tree_nth n (kids_of i f)) ≡ 1
  pub root : root_id (tree_nth n (kids_of i f)) ≡ x

pub kid : (n i x : ℕ) (f : Forest) (p : IsAt i f) → IsChildAt n i x f → IsKid n i x f p
kid n i x f p h = record {
  flat = p.flat ∙ ap (λ (l : List Node). p.before ++ (node_of p.label (kids_of i f) ∷ (l ++ p.after))) (nth_parts n (kids_of i f)) ∙ simp append_assoc;
  single = arity-tree_nth n (kids_of i f) h.within;
  root = sym h.id-is;
}

-- ---- other children

pub has_mid : (i : ℕ) (a : List Node) (n : Node) (b : List Node) → n.id ≡ i → has i (a ++ n ∷ b) ≡ true
has_mid i a n b e = grind (arith, has-append)

-- as many as before
pub reput : (i : ℕ) (new f : Forest) (p : IsAt i f) → arity new ≡ arity (kids_of i f) → flatten (with_kids i new f) ≡ p.before ++ (node_of p.label (kids_of i f) ∷ (flatten new ++ p.after))
reput i new f p e = p.put new ∙ ap (λ (j : ℕ). p.before ++ (record (node_of p.label (kids_of i f)) { children = j } ∷ (flatten new ++ p.after))) e

-- another number of them, between other nodes
pub record IsRekid (i c : ℕ) (new f : Forest) (front tail ns : List Node) : Type 0 where
  pub live : has i ns ≡ true
  pub nodes : with_children i c ns ≡ front ++ (flatten (with_kids i new f) ++ tail)

pub rekid : (i c : ℕ) (new f : Forest) (p : IsAt i f) (front tail ns : List Node) → has i front ≡ false → c ≡ arity new
    → ns ≡ (front ++ p.before) ++ (node_of p.label (kids_of i f) ∷ (flatten new ++ (p.after ++ tail))) → IsRekid i c new f front tail ns
rekid i c new f p front tail ns clear many e =
    let a = front ++ p.before in
    let m = node_of p.label (kids_of i f) in
    let b = flatten new ++ (p.after ++ tail) in
    record {
      live = ap (has i) e ∙ has_mid i a m b p.id-is;
      nodes = ap (with_children i c) e ∙ with_children-append i c a m b (has-append i front p.before ∙ or_is_false _ _ clear p.first) p.id-is
          ∙ ap (λ (j : ℕ). a ++ (record m { children = j } ∷ b)) many
          ∙ sym (ap (λ (l : List Node). front ++ (l ++ tail)) (p.put new) ∙ simp append_assoc);
    }

-- ---- what the calls ask for

pub root_nth : (n : ℕ) (f : Forest) → root_id (rest_trees n f) ≡ root_id (tree_nth n f)
root_nth n f = first (rest_trees n f)
  where
    first : (g : Forest) → root_id g ≡ root_id (first_trees 1 g)
    first g = grind arith

-- a pool that stands for a forest has a live node at a part of it
pub live_at : (i : ℕ) (s : State) → holds i (forest s) ≡ true → IsAt i (forest s)
live_at i s h = at i (forest s) h

-- it is a node of the list
pub live_node : (i : ℕ) (s : State) → Stands s → holds i (forest s) ≡ true → has i s.nodes ≡ true
live_node i s st h = ap (has i) st.flat ∙ has-flatten i (forest s) ∙ h

-- the header of a child
pub child_seen : (i n place : ℕ) (s : State) → Stands s → holds i (forest s) ≡ true → n < arity (kids_of i (forest s)) → IsBoundary place s.nodes → since place s.nodes ≡ skip n (drop 1 (since (place_of i s.nodes) s.nodes))
    → (place < used s.nodes) × ((first_of (since place s.nodes)).id ≡ root_id (rest_trees n (kids_of i (forest s))))
child_seen i n place s st h lt b r =
    let k = kids_of i (forest s) in
    let q = nth_tree n k lt in
    let here = (kid_here i n place s (live_at i s h) st (omega arith) b r).rest ∙ ap (λ (f : Forest). flatten f ++ (live_at i s h).after) q.rest in
    (is_before place s.nodes _ _ b here, ap (λ (l : List Node). (first_of l).id) here ∙ sym (ap root_id q.rest))

-- ---- a child is taken

pub record IsTaken (i n from end : ℕ) (s : State) : Type 0 where
  pub live : has i (moved from (end - from) (used s.nodes) s.nodes) ≡ true
  pub forest : with_children i (arity (kids_of i (forest s)) - 1) (moved from (end - from) (used s.nodes) s.nodes) ≡ flatten
      (join (with_kids i (without_nth n (kids_of i (forest s))) (forest s)) (tree_nth n (kids_of i (forest s))))

pub taken : (n i x from end : ℕ) (s : State) → Stands s → IsChildAt n i x (forest s) → IsTold x from end s.nodes → IsTaken i n from end s
taken n i x from end s st h q =
    let f = forest s in
    let ns = s.nodes in
    let k = kids_of i f in
    let p = at i f (held_parent n i f h.within) in
    let z = kid n i x f p h in
    let t = tree_nth n k in
    let a = p.before ++ (node_of p.label k ∷ flatten (first_trees n k)) in
    let b = flatten (rest_trees 1 (rest_trees n k)) ++ p.after in
    let c = flatten t in
    let new = without_nth n k in
    let whole : ns ≡ a ++ (c ++ (b ++ [])) = st.flat ∙ z.flat ∙ simp append-nil in
    let y = span x from end t a (b ++ []) ns st.pool.distinct z.single z.root whole q in
    let size : used ns ≡ used a + used c + used b = ap used (st.flat ∙ z.flat) ∙ omega (arith, used-append a (c ++ b), used-append c b) in
    let now : moved from (end - from) (used ns) ns ≡ p.before ++ (node_of p.label k ∷ (flatten new ++ (p.after ++ c))) =
    ap (moved from (end - from) (used ns)) whole ∙ moved_right a c b [] from (end - from) (used ns) y.start (omega (arith, y.start, y.stop)) size (omega (arith, y.some))
    ∙ simp (append_assoc, append-nil, flatten-join) in
    let r = rekid i (arity k - 1) new f p [] c _ refl (sym (arity-without_nth n k h.within)) now in
    record { live = r.live; forest = r.nodes ∙ sym (flatten-join (with_kids i new f) t) }

pub counted_taken : (i n : ℕ) (s : State) → Stands s → AllNodes IsCounted (join (with_kids i (without_nth n (kids_of i (forest s))) (forest s)) (tree_nth n (kids_of i (forest s))))
counted_taken i n s st = grind (arith, all-join, all-kids_of, counted-with_kids, all-without_nth, all-tree_nth)

-- ---- a count changes

pub recounted : (i c : ℕ) (s : State) → Stands s → holds i (forest s) ≡ true → with_count i c s.nodes ≡ flatten (with_count_in i c (forest s))
recounted i c s st h =
    let p = live_at i s h in
    ap (with_count i c) (st.flat ∙ p.flat) ∙ with_count-append i c p.before _ _ p.first p.id-is ∙ sym (p.counted c)
