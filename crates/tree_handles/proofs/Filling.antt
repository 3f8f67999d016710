-- A child is taken out of a root, and a tree fills its place.
use Rattle.tree_handles.proofs.Shared.{◌≡◌, ℕ, zero, suc, ◌+◌, ◌≤◌, ◌<◌, ◌∷◌, List, [], eqb, refl, sym, ap, ◌∙◌, subst, arith, true, false, eqb-true, Payload, kind_of_payload, Tree, Trees, more}
use Rattle.tree_handles.proofs.Shared.{count, size, nth, grown, compound, plain, plains, takes, children_of, Forest, empty, tree, join, arity, first_trees, rest_trees, bytes_in, kids, with_root_kids}
use Rattle.tree_handles.proofs.Shared.{tree_nth, without_nth, with_nth, set_nth, AllOnce, AllExpressions, IsHanded, Ends, Gives, KeepsFront, tree_of, kids_of, holds, has_root, root_tree, without_root}
use Rattle.tree_handles.proofs.{Shared.{put, State, free_of, Stands, forest, KeepsRefusals, Place, ChangesTree, IsHole, set_child, set_tree}, Counted.{all-kids, all-set_nth, all-tree_nth}}
use Rattle.tree_handles.proofs.{Distinct.{Distinct, distinct, distinct_parts}, Forests.{arity-set_nth, arity-without_nth, bytes_in-join, first-rest}, FreeBytes.{all_bytes, beside_bytes}}
use Rattle.tree_handles.proofs.{Fronts.{behind_first, front_after_one, front_at, front_end, front_put, front_same, front_without, not_first, starts_end, starts_put}, Nths.{with_nth-without_nth}}
use Rattle.tree_handles.proofs.{Given.{given_apart, given_other, given_rest, given_same, handed_at, handed_beside, handed_by_put}, Lasts.{apart, ends_as, kids_of_root, last_rest}}
use Rattle.tree_handles.proofs.{Over.{tree_put, without_put}, Plains.{children_of-plain, count-plains, grown_whole, plain-tree_nth, whole_kids}, Roots.{kids-put, no_root, put-left, put-put, put-same}}
use Rattle.tree_handles.proofs.Roots.{root_arity, root-left, root-put, root-without, tree-left, tree-put, tree-without, without-put}
use Rattle.node_pool.proofs.Ids.{eqb_sym as eqb-sym}

-- ---- the child goes

-- how many children a handed root has
pub handed_arity : {i : ℕ} {s : State} → Stands s → IsHanded i (forest s) → arity (kids_of i (forest s)) ≡ count (children_of (tree_of i s))
handed_arity {i = i} {s = s} st h = grind (arith, kids_of_root, count-plains, children_of-plain)

handed_kids : {i n : ℕ} {f : Forest} → IsHanded i f → n < count (children_of (plain (root_tree i f))) → n < arity (kids (root_tree i f))
handed_kids {i = i} {f = f} h l = omega (arith, l, ap count (children_of-plain (root_tree i f) h.whole), count-plains (kids (root_tree i f)))

pub opened_hole : {p : Place} {i n h : ℕ} {f new : Forest} → p ≡ record { parent = i; at = n } → IsHanded i f → n < count (children_of (plain (root_tree i f)))
    → Ends h (tree_nth n (kids (root_tree i f))) (put i (without_nth n (kids (root_tree i f))) f) new → IsHole p i n f (without_root h new)
opened_hole p k l e = record { is = p; handed = k; within = l; whole = last_rest e }

pub opened_child : {i n h : ℕ} {f new : Forest} → IsHanded i f → n < count (children_of (plain (root_tree i f)))
    → Ends h (tree_nth n (kids (root_tree i f))) (put i (without_nth n (kids (root_tree i f))) f) new → Gives (without_root h new) new h (λ t. t ≡ nth n (children_of (plain (root_tree i f))))
opened_child {i = i} {n = n} {f = f} k l e = grind (arith, ends_as, last_rest, all-tree_nth, all-kids, whole_kids, plain-tree_nth, children_of-plain)

pub opened_front : {handed : List ℕ} {i h : ℕ} {t f new g : Forest} (n : Forest) → Ends h t (put i n f) new → KeepsFront (h ∷ handed) new g → KeepsFront (i ∷ handed) f g
opened_front {i = i} {h = h} {t = t} {f = f} {new = new} n e k = record {
  keeps = λ p s others. let x = starts_put i n p f others.0 s in k.keeps p (starts_end h t (put i n f) p new e x) (not_first h p (put i n f) x e.clear, others.1);
}

-- ---- bytes

pub bytes_put : (i : ℕ) (n f : Forest) → has_root i f ≡ true → bytes_in (put i n f) + bytes_in (kids (root_tree i f)) ≡ bytes_in f + bytes_in n
bytes_put i n empty h = cc
bytes_put i n (tree l k r) h = grind (arith, bytes_put i n r)

bytes_nth : (n : ℕ) (f : Forest) → bytes_in f ≡ bytes_in (without_nth n f) + bytes_in (tree_nth n f)
bytes_nth n f =
    let rest : Forest = rest_trees n f in
    omega (
      arith,
      ap bytes_in (first-rest n f),
      ap bytes_in (first-rest 1 rest),
      bytes_in-join (first_trees n f) rest,
      bytes_in-join (first_trees 1 rest) (rest_trees 1 rest),
      bytes_in-join (first_trees n f) (rest_trees 1 rest),
    )

-- none are used or set free where a child is taken out
pub opened_free : {i h : ℕ} {s t : State} (n : ℕ) → Stands s → Stands t → KeepsRefusals s t → IsHanded i (forest s)
    → Ends h (tree_nth n (kids (root_tree i (forest s)))) (put i (without_nth n (kids (root_tree i (forest s)))) (forest s)) (forest t) → free_of t ≡ free_of s
opened_free {i = i} {s = s} {t = t} n st su k h e = grind (arith, all_bytes, bytes_in-join, bytes_put, bytes_nth)

-- ---- a tree comes

-- a root that is gone is no root any more
pub gone : (i : ℕ) (f : Forest) → Distinct f → has_root i (without_root i f) ≡ false
gone i empty d = refl
gone i (tree l k r) d = let p = distinct_parts l k r d in grind (arith, no_root, eqb-true, gone i r p.behind)

-- one of the roots beside a root is another
other_beside : (i j : ℕ) (f : Forest) → Distinct f → has_root i (without_root j f) ≡ true → eqb j i ≡ false
other_beside i j f d h = grind (arith, gone, eqb-true)

-- the hole beside a root
pub record IsOpen (i n j : ℕ) (old : Forest) (s : State) : Type 0 where
  pub root : has_root i (forest s) ≡ true
  pub within : n ≤ arity (kids_of i (forest s))
  pub apart : holds i (root_tree j (forest s)) ≡ false
  pub kids-are : kids (root_tree i (forest s)) ≡ without_nth n (kids (root_tree i old))

pub is_open : {p : Place} {i n j : ℕ} {old : Forest} {s : State} → Stands s → IsHanded j (forest s) → IsHole p i n old (without_root j (forest s)) → IsOpen i n j old s
is_open {i = i} {n = n} {j = j} {old = old} {s = s} st k h =
    let l = handed_kids h.handed h.within in
    grind (arith, root-put, other_beside, distinct, root-without, tree-without, kids-put, kids_of_root, arity-without_nth n (kids (root_tree i old)) l, l, apart, eqb-sym)

-- ---- the tree with another child

plains-set_nth : (n : ℕ) (c f : Forest) → arity c ≡ 1 → n < arity f → plains (set_nth n c f) ≡ set_tree n (plain c) (plains f)
plains-set_nth zero (tree m d empty) (tree l k r) e h = refl
plains-set_nth (suc n) (tree m d empty) (tree l k r) e h = ap (more (grown l.payload (plains k))) (plains-set_nth n (tree m d empty) r e (omega arith))
plains-set_nth n c f e h = absurd (omega arith)

grown_bare : (x : Payload) (ts us : Trees) → takes x (count ts) ≡ true → 1 ≤ count ts → grown x us ≡ compound (kind_of_payload x) us
grown_bare x ts us h l = grind arith

set_kids : (n : ℕ) (c t : Forest) → arity t ≡ 1 → AllExpressions t → arity c ≡ 1 → n < arity (kids t) → plain (with_root_kids (set_nth n c (kids t)) t) ≡ set_child n (plain c) (plain t)
set_kids n c t e w one l = grind (arith, grown_whole, count-plains, grown_bare, plains-set_nth)

-- a root with another child is whole again
whole_again : (n : ℕ) (c t : Forest) → arity t ≡ 1 → AllOnce t → AllExpressions t → arity c ≡ 1 → AllOnce c → AllExpressions c → n < arity (kids t)
    → AllOnce (with_root_kids (set_nth n c (kids t)) t) × AllExpressions (with_root_kids (set_nth n c (kids t)) t)
whole_again n c t a o w one p q l = grind (arith, all-set_nth, arity-set_nth)

pub filled : {p : Place} {i n j : ℕ} {old : Forest} {s : State} {new : Forest} → Stands s → IsHanded j (forest s) → IsHole p i n old (without_root j (forest s))
    → new ≡ put i (with_nth n (root_tree j (forest s)) (kids (root_tree i (forest s)))) (without_root j (forest s)) → ChangesTree i (set_child n (tree_of j s) (plain (root_tree i old))) old new
filled {i = i} {n = n} {j = j} {old = old} {s = s} {new = new} st k h e =
    let t : Forest = root_tree i old in
    let c : Forest = root_tree j (forest s) in
    let l = handed_kids h.handed h.within in
    let one = root_arity j (forest s) k.root in
    let alone = root_arity i old h.handed.root in
    let there : new ≡ put i (set_nth n c (kids t)) old =
    e ∙ (λ x. put i (with_nth n c ((is_open st k h).kids-are x)) (h.whole x)) ∙ ap (λ (x : Forest). put i x (put i (without_nth n (kids t)) old)) (with_nth-without_nth n c (kids t) l)
    ∙ put-put i (set_nth n c (kids t)) (without_nth n (kids t)) old in
    let now : root_tree i new ≡ with_root_kids (set_nth n c (kids t)) t = ap (root_tree i) there ∙ tree_put i (set_nth n c (kids t)) old in
    let w = whole_again n c t alone h.handed.once h.handed.whole one k.once k.whole l in
    record {
      kids = set_nth n c (kids t);
      whole = there;
      handed = record { root = ap (has_root i) there ∙ root-put i i (set_nth n c (kids t)) old ∙ h.handed.root; once = subst AllOnce (sym now) w.0; whole = subst AllExpressions (sym now) w.1 };
      tree = ap plain now ∙ set_kids n c t alone h.handed.whole one l;
    }

-- ---- from call to call

-- a call that was handed the child leaves the hole where it was
pub hole_stays : {p : Place} {i n j : ℕ} {old others f : Forest} {Told : Tree → Type 0} → Gives others f j Told → IsHole p i n old others → IsHole p i n old (without_root j f)
hole_stays {p = p} {i = i} {n = n} {old = old} g h = subst (IsHole p i n old) (sym (given_rest g)) h

-- the other roots are as before
pub hole_other : {p : Place} {i j n : ℕ} {old f : Forest} → IsHole p i n old f → eqb i j ≡ false → IsHanded j old → IsHanded j f
hole_other {i = i} {n = n} {old = old} h d k = handed_at (handed_by_put i (without_nth n (kids (root_tree i old))) d k) h.whole

pub hole_tree : {p : Place} {i n : ℕ} {old f : Forest} (j : ℕ) → IsHole p i n old f → eqb i j ≡ false → root_tree j f ≡ root_tree j old
hole_tree {i = i} {n = n} {old = old} j h d = ap (root_tree j) h.whole ∙ tree-put i j (without_nth n (kids (root_tree i old))) old d

pub record IsAsBefore (j h : ℕ) (old new : Forest) : Type 0 where
  pub handed : IsHanded j new
  pub apart : eqb h j ≡ false
  pub same : plain (root_tree j new) ≡ plain (root_tree j old)

pub as_before : {p : Place} {i j n h : ℕ} {old new : Forest} {Told : Tree → Type 0} → IsHole p i n old (without_root h new) → Gives (without_root h new) new h Told → eqb i j ≡ false → IsHanded j old → IsAsBefore j h old new
as_before {j = j} o g d k =
    let there = hole_other o d k in
    record { handed = given_other g there; apart = given_apart g there; same = ap plain (given_same j g there.root ∙ hole_tree j o d) }

-- one of them goes
pub hole_beside : {p : Place} {i n : ℕ} {old f : Forest} (j : ℕ) → eqb i j ≡ false → IsHole p i n old f → IsHole p i n (without_root j old) (without_root j f)
hole_beside {i = i} {n = n} {old = old} {f = f} j d h = grind (arith, tree-without, eqb-sym, handed_beside, without-put)

-- another tree comes behind all
pub hole_behind : {p : Place} {i n j : ℕ} {t old f g : Forest} → IsHole p i n old f → Ends j t f g → IsHole p i n (join old t) g
hole_behind {i = i} {n = n} {t = t} {old = old} h e = grind (arith, tree-left, root-left, put-left)

pub changes_none : {i : ℕ} {f : Forest} → IsHanded i f → ChangesTree i (plain (root_tree i f)) f f
changes_none {i = i} {f = f} h = record { kids = kids (root_tree i f); whole = sym (put-same i f); handed = h; tree = refl }

pub changes_after : {i : ℕ} {t u : Tree} {f g h : Forest} → ChangesTree i t f g → ChangesTree i u g h → ChangesTree i u f h
changes_after {i = i} {f = f} a b = record { kids = b.kids; whole = b.whole ∙ ap (put i b.kids) a.whole ∙ put-put i b.kids a.kids f; handed = b.handed; tree = b.tree }

pub changes_as : {i : ℕ} {t u : Tree} {f g : Forest} → ChangesTree i t f g → t ≡ u → ChangesTree i u f g
changes_as {i = i} {f = f} {g = g} a e = subst (λ (x : Tree). ChangesTree i x f g) e a

pub changes_front : {i : ℕ} {t : Tree} {handed : List ℕ} {f g : Forest} → ChangesTree i t f g → KeepsFront (i ∷ handed) f g
changes_front a = front_at (front_put a.kids behind_first front_same) a.whole

pub changes_rest : {i : ℕ} {t : Tree} {f g : Forest} → ChangesTree i t f g → without_root i g ≡ without_root i f
changes_rest {i = i} {f = f} a = ap (without_root i) a.whole ∙ without_put i a.kids f

pub changes_other : {i j : ℕ} {t : Tree} {f g : Forest} → ChangesTree i t f g → eqb i j ≡ false → IsHanded j f → IsHanded j g
changes_other {i = i} a d h = handed_at (handed_by_put i a.kids d h) a.whole

pub changes_same : {i : ℕ} {t : Tree} {f g : Forest} (j : ℕ) → ChangesTree i t f g → eqb i j ≡ false → root_tree j g ≡ root_tree j f
changes_same {i = i} {f = f} j a d = ap (root_tree j) a.whole ∙ tree-put i j a.kids f d

pub changes_beside : {i : ℕ} {t : Tree} {f g : Forest} (j : ℕ) → eqb i j ≡ false → ChangesTree i t f g → ChangesTree i t (without_root j f) (without_root j g)
changes_beside {i = i} {f = f} {g = g} j d a = grind (arith, eqb-sym, without-put, handed_beside, tree-without)

-- the root goes last
pub changes_last : {i : ℕ} {t : Tree} {f g new : Forest} {Told : Tree → Type 0} → ChangesTree i t f g → Ends i (root_tree i g) (without_root i g) new → Told t → Gives (without_root i f) new i Told
changes_last {i = i} {Told = Told} a e h = record { tree = root_tree i _; ends = ends_as e refl (changes_rest a); once = a.handed.once; whole = a.handed.whole; told = subst Told (sym a.tree) h }

pub changes_last_front : {i : ℕ} {t : Tree} {u f g new : Forest} → ChangesTree i t f g → Ends i u (without_root i g) new → KeepsFront (i ∷ []) f new
changes_last_front a e = front_end e (front_without behind_first (changes_front a))

-- two trees that were handed, named the other way round
pub front_swapped : {i j : ℕ} {f g : Forest} → KeepsFront (i ∷ j ∷ []) f g → KeepsFront (j ∷ i ∷ []) f g
front_swapped k = record { keeps = λ p s n. k.keeps p s (n.1.0, (n.0, tt)) }

-- where the root changed before, and a call that was handed it keeps the front
pub front_again : {i : ℕ} {handed : List ℕ} {f g h : Forest} → KeepsFront (i ∷ handed) f g → KeepsFront (i ∷ []) g h → KeepsFront (i ∷ handed) f h
front_again a b = front_after_one behind_first a b

pub changes_free : {i : ℕ} {t : Tree} {s u : State} → Stands s → Stands u → KeepsRefusals s u → IsHanded i (forest s) → ChangesTree i t (forest s) (forest u) → free_of u + size t ≡ free_of s + size (tree_of i s)
changes_free {s = s} {u = u} st su k h a =
    omega (arith, all_bytes s st, all_bytes u su, k.size, beside_bytes _ (forest s) h, beside_bytes _ (forest u) a.handed, ap bytes_in (changes_rest a), ap size a.tree)

-- how many children a reader tells of a root
pub children_told : {s : State} {i j n : ℕ} → j ≡ i → n ≡ arity (kids_of j (forest s)) → Stands s → IsHanded i (forest s) → n ≡ count (children_of (tree_of i s))
children_told {s = s} e told st h = told ∙ ap (λ (x : ℕ). arity (kids_of x (forest s))) e ∙ handed_arity st h
