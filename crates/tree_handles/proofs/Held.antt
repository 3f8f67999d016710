-- A released node, wherever it stands.
use Rattle.tree_handles.proofs.Shared.{◌≡◌, ℕ, ◌-◌, ◌<◌, inl, inr, List, ◌∷◌, ◌++◌, cond, refl, sym, ap, ◌∙◌, arith, Bool, true, false, eq-eqb, Node, State, has, used, place_of, AreDistinct, since}
use Rattle.tree_handles.proofs.Shared.{until, until-append, Label, Forest, empty, tree, join, root_count, node_of, flatten, forest_of, AllOnce, IsOwned, holds, kids_of, count_of, with_count_in}
use Rattle.tree_handles.proofs.{Shared.{released, released_in, has_root, root_tree, without_root, IsReleasable, forest, Stands, release_first, released_at}, Distinct.{Distinct, distinct_parts}}
use Rattle.tree_handles.proofs.{Parts.{at, found, found_behind}, Joins.{released_in-join_right}, Releases.{released_held}, Roots.{top, root_held}, Forests.{flatten-join, forest_of_whole, has-flatten}}

-- the nodes before, and the trees from the node on
pub record IsReleased (i : ℕ) (f : Forest) : Type 0 where
  pub before : List Node
  pub label : Label
  pub kids : Forest
  pub right : Forest
  pub id-is : label.id ≡ i
  pub first : has i before ≡ false
  pub flat : flatten f ≡ before ++ flatten (tree label kids right)
  pub done : flatten (released_in i f) ≡ before ++ flatten (release_first 1 (tree label kids right))

-- where it stands at a root
pub at_a_root : (i : ℕ) (f : Forest) (ns : List Node) → ns ≡ flatten f → AreDistinct ns → has_root i f ≡ true → IsReleased i f
at_a_root i f ns e d h =
    let r = top i f h in
    let g = tree r.label r.kids-are r.right in
    let flat : flatten f ≡ flatten r.left ++ flatten g = ap flatten r.whole ∙ flatten-join r.left g in
    let clear = (found i (node_of r.label r.kids-are) (flatten r.left) (flatten r.kids-are ++ flatten r.right) ns d r.id-is (e ∙ flat)).clear in
    let here : released_in i g ≡ release_first 1 g = ap (λ (t : Bool). cond t (join (released (tree r.label r.kids-are empty)) r.right) (cond (holds i r.kids-are) (tree r.label (released_in i r.kids-are) r.right) (tree r.label r.kids-are (released_in i r.right)))) (eq-eqb r.label.id i r.id-is) in
    record {
      before = flatten r.left;
      label = r.label;
      kids = r.kids-are;
      right = r.right;
      id-is = r.id-is;
      first = clear;
      flat = flat;
      done = ap flatten (ap (released_in i) r.whole ∙ released_in-join_right i r.left g (sym (has-flatten i r.left) ∙ clear) ∙ ap (join r.left) here) ∙ flatten-join r.left (release_first 1 g);
    }

pub held_count : (i : ℕ) (f : Forest) → 1 < count_of i f → holds i f ≡ true
held_count i empty c = absurd (omega arith)
held_count i (tree l k r) c = grind (arith, held_count i r)

-- where it is held its count falls
released_once_less : (i : ℕ) (f : Forest) → 1 < count_of i f → released_in i f ≡ with_count_in i (count_of i f - 1) f
released_once_less i empty c = refl
released_once_less i (tree l k r) c = grind (arith, released_held, released_once_less i k, released_once_less i r)

held_at : (i : ℕ) (f : Forest) → 1 < count_of i f → IsReleased i f
held_at i f c =
    let p = at i f (held_count i f c) in
    let k = kids_of i f in
    let n : count_of i f ≡ p.label.count = ap root_count p.tree-is in
    let less = record p.label { count = p.label.count - 1 } in
    record {
      before = p.before;
      label = p.label;
      kids = k;
      right = p.right;
      id-is = p.id-is;
      first = p.first;
      flat = p.flat ∙ ap (λ (x : List Node). p.before ++ (node_of p.label k ∷ (flatten k ++ x))) p.behind-is;
      done = ap flatten (released_once_less i f c) ∙ ap (λ (m : ℕ). flatten (with_count_in i (m - 1) f)) n ∙ p.counted (p.label.count - 1)
          ∙ ap (λ (x : List Node). p.before ++ (node_of less k ∷ (flatten k ++ x))) p.behind-is ∙ sym
          (ap (λ (x : Forest). p.before ++ flatten (join x p.right)) (released_held p.label k empty (omega (arith, c, n))));
    }

both : (i : ℕ) (s : State) → Stands s → IsReleasable i (forest s) → IsReleased i (forest s)
both i s h k = grind (arith, at_a_root, held_at)

pub releasable_held : (i : ℕ) (f : Forest) → IsReleasable i f → holds i f ≡ true
releasable_held i f (inl h) = root_held i f h
releasable_held i f (inr h) = held_count i f h

-- what the loop wants and leaves, seen as a forest
pub record IsReady (i at : ℕ) (s : State) : Type 0 where
  pub trees : since at s.nodes ≡ flatten (forest_of (since at s.nodes))
  pub done : released_at at 1 s.nodes ≡ flatten (released_in i (forest s))

pub ready : (i at : ℕ) (s : State) → Stands s → IsReleasable i (forest s) → at ≡ place_of i s.nodes → IsReady i at s
ready i at s st allowed e =
    let r = both i s st allowed in
    let g = tree r.label r.kids r.right in
    let q = found_behind i (node_of r.label r.kids) r.before (flatten r.kids ++ flatten r.right) s.nodes r.first r.id-is (st.flat ∙ r.flat) in
    let behind : since at s.nodes ≡ flatten g = ap (λ (k : ℕ). since k s.nodes) e ∙ q.here in
    let front : until at s.nodes ≡ r.before = ap (λ (k : ℕ). until k s.nodes) (e ∙ q.start) ∙ ap (until (used r.before)) (st.flat ∙ r.flat) ∙ until-append r.before (flatten g) in
    let trees : forest_of (since at s.nodes) ≡ g = ap forest_of behind ∙ forest_of_whole g in
    record {
      trees = behind ∙ ap flatten (sym trees);
      done = ap (λ (x : List Node). x ++ flatten (release_first 1 (forest_of (since at s.nodes)))) front ∙ ap (λ (x : Forest). r.before ++ flatten (release_first 1 x)) trees ∙ sym r.done;
    }

-- ---- a tree that is owned goes whole

pub released-once : (f : Forest) → AllOnce f → released f ≡ empty
released-once empty h = refl
released-once (tree l k r) h = rw (h.0, released-once k h.1, released-once r h.2) refl

released_in-root : (i : ℕ) (f : Forest) → Distinct f → has_root i f ≡ true → AllOnce (root_tree i f) → released_in i f ≡ without_root i f
released_in-root i empty d h o = refl
released_in-root i (tree l k r) d h o = let p = distinct_parts l k r d in grind (arith, root_held, released-once, released_in-root i r p.behind)

pub released-owned : (i : ℕ) (f : Forest) → Distinct f → IsOwned i f → released_in i f ≡ without_root i f
released-owned i f d h = released_in-root i f d h.root h.once
