-- The tree that stands last.
use Rattle.tree_handles.proofs.Shared.{◌≡◌, ℕ, eqb, refl, sym, ap, ◌∙◌, subst, arith, true, false, eqb-true, eq-eqb, State, plain, AllExpressions, IsExpression, Forest, empty, tree, join}
use Rattle.tree_handles.proofs.Shared.{arity, kids, root_id, with_root_kids, with_nth, IsHanded, Ends, holds, tree_at, kids_of, has_root, root_tree, without_root, put, Stands}
use Rattle.tree_handles.proofs.{Shared.forest, Forests.join-empty, Distinct.{Distinct, distinct, distinct_parts, tree_at-root}, Roots.{root_held, root-left, root-right, tree-left, tree-right}}
use Rattle.tree_handles.proofs.Roots.{without-left, without-right, put-left, put-right, root-without, root-put}
use Rattle.node_pool.proofs.Ids.{eqb_sym as eqb-sym}

-- one tree, by its root's identifier
alone_tree : (i : ℕ) (t : Forest) → arity t ≡ 1 → root_id t ≡ i → (has_root i t ≡ true) × (root_tree i t ≡ t) × (without_root i t ≡ empty) × ((n : Forest) → put i n t ≡ with_root_kids n t)
alone_tree i (tree l k empty) a r = let e : eqb l.id i ≡ true = eq-eqb l.id i r in (rw e refl, rw e refl, rw e refl, λ n. rw e refl)
alone_tree i t a r = absurd (omega arith)

pub last_root : {i : ℕ} {t g f : Forest} → Ends i t g f → has_root i f ≡ true
last_root {i = i} {t = t} {g = g} h = ap (has_root i) h.whole ∙ root-right i g t h.clear ∙ (alone_tree i t h.alone h.root).0

pub last_held : {i : ℕ} {t g f : Forest} → Ends i t g f → holds i f ≡ true
last_held {i = i} {f = f} h = root_held i f (last_root h)

pub last_tree : {i : ℕ} {t g f : Forest} → Ends i t g f → root_tree i f ≡ t
last_tree {i = i} {t = t} {g = g} h = ap (root_tree i) h.whole ∙ tree-right i g t h.clear ∙ (alone_tree i t h.alone h.root).1

pub last_rest : {i : ℕ} {t g f : Forest} → Ends i t g f → without_root i f ≡ g
last_rest {i = i} {t = t} {g = g} h = ap (without_root i) h.whole ∙ without-right i g t h.clear ∙ ap (join g) (alone_tree i t h.alone h.root).2 ∙ join-empty g

pub last_put : {i : ℕ} {t g f : Forest} (n : Forest) → Ends i t g f → put i n f ≡ join g (with_root_kids n t)
last_put {i = i} {t = t} {g = g} n h = ap (put i n) h.whole ∙ put-right i n g t h.clear ∙ ap (join g) ((alone_tree i t h.alone h.root).3 n)

-- ---- another root

pub other_root : {i : ℕ} {t g f : Forest} (j : ℕ) → Ends i t g f → has_root j g ≡ true → has_root j f ≡ true
other_root {t = t} {g = g} j h r = ap (has_root j) h.whole ∙ root-left j g t r

pub other_tree : {i : ℕ} {t g f : Forest} (j : ℕ) → Ends i t g f → has_root j g ≡ true → root_tree j f ≡ root_tree j g
other_tree {t = t} {g = g} j h r = ap (root_tree j) h.whole ∙ tree-left j g t r

pub other_apart : {i : ℕ} {t g f : Forest} (j : ℕ) → Ends i t g f → has_root j g ≡ true → eqb i j ≡ false
other_apart j h r = grind (arith, eqb-true)

pub other_rest : {i : ℕ} {t g f : Forest} (j : ℕ) → Ends i t g f → has_root j g ≡ true → without_root j f ≡ join (without_root j g) t
other_rest {t = t} {g = g} j h r = ap (without_root j) h.whole ∙ without-left j g t r

pub other_handed : {i j : ℕ} {t g f : Forest} → Ends i t g f → IsHanded j g → IsHanded j f
other_handed h r = grind (arith, other_root, other_tree)

-- another root goes, or has other children
pub ends_without : {i : ℕ} {t g f : Forest} (j : ℕ) → Ends i t g f → has_root j g ≡ true → Ends i t (without_root j g) (without_root j f)
ends_without j h r = grind (arith, other_rest, root-without, eqb-sym, other_apart)

pub ends_put : {i : ℕ} {t g f : Forest} (j : ℕ) (n : Forest) → Ends i t g f → has_root j g ≡ true → Ends i t (put j n g) (put j n f)
ends_put j n h r = grind (arith, put-left, root-put)

-- the same forest, and others in other words
pub ends_at : {i : ℕ} {t g f new : Forest} → Ends i t g f → new ≡ f → Ends i t g new
ends_at h e = record { whole = e ∙ h.whole; alone = h.alone; root = h.root; clear = h.clear }

pub ends_as : {i : ℕ} {t u g h f : Forest} → Ends i t g f → t ≡ u → g ≡ h → Ends i u h f
ends_as {i = i} {u = u} {g = g} {f = f} e p q = subst (λ (x : Forest). Ends i u x f) q (subst (λ (x : Forest). Ends i x g f) p e)

-- ---- the last tree takes a child

pub with_kids_alone : (n t : Forest) → arity (with_root_kids n t) ≡ arity t
with_kids_alone n t = grind arith

pub with_kids_root : (n t : Forest) → root_id (with_root_kids n t) ≡ root_id t
with_kids_root n t = grind arith

-- a root from those before it
pub takes_root : {i : ℕ} {t g f new : Forest} (j at : ℕ) → Ends i t g f → has_root j g ≡ true → new ≡ put i (with_nth at (root_tree j f) (kids (root_tree i f))) (without_root j f)
    → Ends i (with_root_kids (with_nth at (root_tree j g) (kids t)) t) (without_root j g) new
takes_root {t = t} {g = g} j at h r e =
    let still = ends_without j h r in
    let whole = e ∙ rw (other_tree j h r, last_tree h) (last_put (with_nth at (root_tree j g) (kids t)) still) in
    record { whole = whole; alone = with_kids_alone _ t ∙ h.alone; root = with_kids_root _ t ∙ h.root; clear = still.clear }

-- the tree just before it
pub takes_next : {i j : ℕ} {t u g f two new : Forest} (at : ℕ) → Ends j u g f → Ends i t f two → new ≡ put i (with_nth at (root_tree j two) (kids (root_tree i two))) (without_root j two)
    → Ends i (with_root_kids (with_nth at u (kids t)) t) g new
takes_next {i = i} {j = j} {t = t} {f = f} {new = new} at h p e = ends_as (takes_root j at p (last_root h) e) (ap (λ (x : Forest). with_root_kids (with_nth at x (kids t)) t) (last_tree h)) (last_rest h)

-- ---- roots are apart

holds_tree : (i j : ℕ) (f : Forest) → holds i f ≡ false → holds i (root_tree j f) ≡ false
holds_tree i j empty h = refl
holds_tree i j (tree l k r) h = grind (arith, holds_tree i j r)

-- another root is not in the tree of a root
pub roots_apart : (i j : ℕ) (f : Forest) → Distinct f → eqb i j ≡ false → has_root i f ≡ true → has_root j f ≡ true → holds i (root_tree j f) ≡ false
roots_apart i j empty d n ha hb = refl
roots_apart i j (tree l k r) d n ha hb = let p = distinct_parts l k r d in grind (arith, eqb-true, eqb-sym, root_held, holds_tree, roots_apart i j r p.behind n)

pub apart : {s : State} (i j : ℕ) → Stands s → eqb i j ≡ false → has_root i (forest s) ≡ true → has_root j (forest s) ≡ true → holds i (root_tree j (forest s)) ≡ false
apart {s = s} i j st n a b = roots_apart i j (forest s) (distinct s st) n a b

pub last_apart : {s : State} {i : ℕ} {t g : Forest} (j : ℕ) → Stands s → Ends i t g (forest s) → has_root j g ≡ true → holds i (root_tree j (forest s)) ≡ false
last_apart {i = i} j st h r = apart i j st (other_apart j h r) (last_root h) (other_root j h r)

-- ---- a root's tree by its identifier

pub tree_of_root : {s : State} (i : ℕ) → Stands s → has_root i (forest s) ≡ true → tree_at i (forest s) ≡ root_tree i (forest s)
tree_of_root {s = s} i st h = tree_at-root i (forest s) (distinct s st) h

pub kids_of_root : {s : State} (i : ℕ) → Stands s → has_root i (forest s) ≡ true → kids_of i (forest s) ≡ kids (root_tree i (forest s))
kids_of_root i st h = ap kids (tree_of_root i st h)

pub kids_of_last : {s : State} {i : ℕ} {t g : Forest} → Stands s → Ends i t g (forest s) → kids_of i (forest s) ≡ kids t
kids_of_last {i = i} st h = kids_of_root i st (last_root h) ∙ ap kids (last_tree h)

-- a handed tree as the readers see it
pub expression_root : {s : State} {i : ℕ} → Stands s → IsHanded i (forest s) → IsExpression i (forest s)
expression_root {s = s} {i = i} st h = record { live = root_held i (forest s) h.root; whole = subst AllExpressions (sym (tree_of_root i st h.root)) h.whole }

pub plain_root : {s : State} (i : ℕ) → Stands s → has_root i (forest s) ≡ true → plain (tree_at i (forest s)) ≡ plain (root_tree i (forest s))
plain_root i st h = ap plain (tree_of_root i st h)
