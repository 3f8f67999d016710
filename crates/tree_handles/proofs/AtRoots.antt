-- The calls at roots, in words of roots.
use Rattle.tree_handles.proofs.Shared.{◌≡◌, ℕ, ◌+◌, ◌<◌, ◌≤◌, ◌∷◌, cond, eqb, sym, ap, ◌∙◌, subst, arith, true, false, eqb-true, eq-eqb, AreDistinct, State, AreDistinct-parts}
use Rattle.tree_handles.proofs.Shared.{AreDistinct-append, AreApart-parts, Forest, tree, join, arity, kids, root_id, node_of, flatten, tree_nth, without_nth, with_nth, set_nth, with_root_kids, Ends}
use Rattle.tree_handles.proofs.{Shared.{holds, kids_of, with_kids, has_root, root_tree, without_root, put, Stands, forest}, Distinct.{Distinct, distinct, put-root, clear_front}}
use Rattle.tree_handles.proofs.{Forests.{flatten-join, arity-with_nth, arity-tree_nth}, Joins.{holds-with_kids, kids_of-with_kids}, Replacing.held_beside}
use Rattle.tree_handles.proofs.{Lasts.{kids_of_root, last_root, takes_root, takes_next}, Roots.{top, root_arity, root-without, root_id-root_tree}}
use Rattle.node_pool.proofs.Ids.{eqb_sym as eqb-sym}

pub distinct-without : (i : ℕ) (f : Forest) → Distinct f → has_root i f ≡ true → Distinct (without_root i f)
distinct-without i f d h =
    let p = top i f h in
    let m = tree p.label p.kids-are p.right in
    let all = AreDistinct-parts (flatten p.left) (flatten m) (subst AreDistinct (ap flatten p.whole ∙ flatten-join p.left m) d) in
    let below = AreDistinct-parts (flatten p.kids-are) (flatten p.right) all.1.1 in
    subst AreDistinct (sym (ap flatten p.without ∙ flatten-join p.left p.right))
    (AreDistinct-append (flatten p.left) (flatten p.right) all.0 below.1 (AreApart-parts (flatten p.left) (node_of p.label p.kids-are ∷ flatten p.kids-are) (flatten p.right) all.2).1)

-- a node that is not in the tree of a root is another than the root
pub other_than : (i j : ℕ) (f : Forest) → holds i (root_tree j f) ≡ false → has_root j f ≡ true → eqb i j ≡ false
other_than i j f a h =
    let p = top j f h in
    let q : cond (eqb p.label.id i) true (cond (holds i p.kids-are) true false) ≡ false = ap (holds i) (sym p.tree-is) ∙ a in
    grind (arith, p.id-is, eqb-true, eq-eqb)

-- ---- a root takes another as a child

pub added_root : (i at j : ℕ) (s t : State) → Stands s → has_root j (forest s) ≡ true → holds i (root_tree j (forest s)) ≡ false → forest t ≡ with_kids i (with_nth at (root_tree j (forest s)) (kids_of i (forest s))) (without_root j (forest s))
    → has_root i (forest s) ≡ true → forest t ≡ put i (with_nth at (root_tree j (forest s)) (kids (root_tree i (forest s)))) (without_root j (forest s))
added_root i at j s t h k a e l = grind (arith, other_than, put-root, distinct-without, root-without, eqb-sym, kids_of_root)

pub added_last : (i at j : ℕ) (s t : State) → Stands s → has_root j (forest s) ≡ true → holds i (root_tree j (forest s)) ≡ false → forest t ≡ with_kids i (with_nth at (root_tree j (forest s)) (kids_of i (forest s))) (without_root j (forest s))
    → (u g : Forest) → Ends i u g (forest s) → has_root j g ≡ true → Ends i (with_root_kids (with_nth at (root_tree j g) (kids u)) u) (without_root j g) (forest t)
added_last i at j s t st root a e u g h r = takes_root j at h r (added_root i at j s t st root a e (last_root h))

pub added_next : (i at j : ℕ) (s t : State) → Stands s → has_root j (forest s) ≡ true → holds i (root_tree j (forest s)) ≡ false → forest t ≡ with_kids i (with_nth at (root_tree j (forest s)) (kids_of i (forest s))) (without_root j (forest s))
    → (u f v g : Forest) → Ends i u f (forest s) → Ends j v g f → Ends i (with_root_kids (with_nth at v (kids u)) u) g (forest t)
added_next i at j s t st root a e u f v g h k = takes_next at k h (added_root i at j s t st root a e (last_root h))

-- its children are one more
pub record IsMore (i : ℕ) (f g : Forest) : Type 0 where
  pub live : holds i g ≡ true
  pub many : arity (kids_of i g) ≡ arity (kids_of i f) + 1

pub added_more : (i at j : ℕ) (f g : Forest) → holds i f ≡ true → at ≤ arity (kids_of i f) → has_root j f ≡ true → holds i (root_tree j f) ≡ false → g ≡ with_kids i (with_nth at (root_tree j f) (kids_of i f)) (without_root j f) → IsMore i f g
added_more i at j f g h k l a e = grind (arith, held_beside, holds-with_kids, kids_of-with_kids, arity-with_nth, root_arity)

-- ---- a root's child becomes the last root

pub taken_last : (i at h : ℕ) (s t : State) (g : Forest) → Stands s → Stands t → at < arity (kids_of i (forest s)) → forest t ≡ join g (tree_nth at (kids_of i (forest s))) → h ≡ root_id (tree_nth at (kids_of i (forest s))) → Ends h (tree_nth at (kids_of i (forest s))) g (forest t)
taken_last i at h s t g k l m e q = grind (arith, arity-tree_nth, clear_front)

-- from a root
pub taken_root : (i at h : ℕ) (s t : State) → Stands s → Stands t → at < arity (kids_of i (forest s)) → forest t ≡ join (with_kids i (without_nth at (kids_of i (forest s))) (forest s)) (tree_nth at (kids_of i (forest s))) → h ≡ root_id (tree_nth at (kids_of i (forest s)))
    → has_root i (forest s) ≡ true → Ends h (tree_nth at (kids (root_tree i (forest s)))) (put i (without_nth at (kids (root_tree i (forest s)))) (forest s)) (forest t)
taken_root i at h s t st sn within e q root =
    let f = forest s in
    let k = kids_of_root i st root in
    let now : forest t ≡ join (put i (without_nth at (kids_of i f)) f) (tree_nth at (kids_of i f)) = e ∙ ap (λ (x : Forest). join x (tree_nth at (kids_of i f))) (put-root i (without_nth at (kids_of i f)) f (distinct s st) root) in
    subst (λ (x : Forest). Ends h (tree_nth at x) (put i (without_nth at x) f) (forest t)) k (taken_last i at h s t (put i (without_nth at (kids_of i f)) f) st sn within now q)

-- another root takes its place
pub exchanged_root : (i at j h : ℕ) (s t : State) → Stands s → Stands t → at < arity (kids_of i (forest s)) → has_root j (forest s) ≡ true → holds i (root_tree j (forest s)) ≡ false
    → forest t ≡ join (with_kids i (set_nth at (root_tree j (forest s)) (kids_of i (forest s))) (without_root j (forest s))) (tree_nth at (kids_of i (forest s))) → h ≡ root_id (tree_nth at (kids_of i (forest s)))
    → has_root i (forest s) ≡ true → Ends h (tree_nth at (kids (root_tree i (forest s)))) (put i (set_nth at (root_tree j (forest s)) (kids (root_tree i (forest s)))) (without_root j (forest s))) (forest t)
exchanged_root i at j h s t st sn within root a e q top_i =
    let f = forest s in
    let k = kids_of_root i st top_i in
    let n = other_than i j f a root in
    let new = set_nth at (root_tree j f) (kids_of i f) in
    let now : forest t ≡ join (put i new (without_root j f)) (tree_nth at (kids_of i f)) = e ∙ ap (λ (x : Forest). join x (tree_nth at (kids_of i f))) (put-root i new (without_root j f) (distinct-without j f (distinct s st) root) (root-without j i f (eqb-sym i j n) ∙ top_i)) in
    subst (λ (x : Forest). Ends h (tree_nth at x) (put i (set_nth at (root_tree j f) x) (without_root j f)) (forest t)) k (taken_last i at h s t (put i new (without_root j f)) st sn within now q)

-- ---- other children of a root

pub changed_root : (i : ℕ) (s t : State) (new : Forest → Forest) → Stands s → forest t ≡ with_kids i (new (kids_of i (forest s))) (forest s) → has_root i (forest s) ≡ true → forest t ≡ put i (new (kids (root_tree i (forest s)))) (forest s)
changed_root i s t new h e k = grind (arith, put-root, kids_of_root)

-- ---- a root that moves behind all others

pub moved_last : (i : ℕ) (s t : State) → Stands s → Stands t → has_root i (forest s) ≡ true → forest t ≡ join (without_root i (forest s)) (root_tree i (forest s)) → Ends i (root_tree i (forest s)) (without_root i (forest s)) (forest t)
moved_last i s t h k l e = grind (arith, root_id-root_tree, root_arity, clear_front)
