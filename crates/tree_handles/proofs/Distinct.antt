-- Forests whose nodes have distinct identifiers.
use Rattle.tree_handles.proofs.Shared.{◌≡◌, ℕ, zero, suc, ◌<◌, ◌≤◌, List, [], ◌∷◌, ◌++◌, cond, eqb, refl, sym, ◌∙◌, subst, arith, true, false, eqb-true, eq-eqb, append-nil, Node, has, AreDistinct}
use Rattle.tree_handles.proofs.Shared.{State, has-append, AreDistinct-parts, AreApart, AreApart-sym, Label, Forest, empty, tree, join, arity, flatten, tree_nth, kids, root_id, holds, tree_at, kids_of}
use Rattle.tree_handles.proofs.{Shared.{with_kids, has_root, root_tree, put, Stands, forest, or_true}, Forests.{flatten-join, has-flatten}, Roots.{root_held, no_root}, Outcomes.{not_left, not_right}}

abbrev pub Distinct : Forest → Type 0
Distinct f = AreDistinct (flatten f)

pub distinct : (s : State) → Stands s → Distinct (forest s)
distinct s h = subst AreDistinct h.flat h.pool.distinct

apart_has : (i : ℕ) (a b : List Node) → AreApart a b → has i b ≡ true → has i a ≡ false
apart_has i [] b p h = refl
apart_has i (n ∷ a) b p h = grind (arith, apart_has i a b p.1 h)

-- the parts of such a forest
pub record AreParts (l : Label) (k r : Forest) : Type 0 where
  pub not_below : holds l.id k ≡ false
  pub not_behind : holds l.id r ≡ false
  pub below : Distinct k
  pub behind : Distinct r
  pub apart : (i : ℕ) → holds i r ≡ true → holds i k ≡ false

pub distinct_parts : (l : Label) (k r : Forest) → Distinct (tree l k r) → AreParts l k r
distinct_parts l k r d =
    let p = AreDistinct-parts (flatten k) (flatten r) d.1 in
    let neither : cond (has l.id (flatten k)) true (has l.id (flatten r)) ≡ false = sym (has-append l.id (flatten k) (flatten r)) ∙ d.0 in
    record {
      not_below = sym (has-flatten l.id k) ∙ not_left (has l.id (flatten k)) (has l.id (flatten r)) neither;
      not_behind = sym (has-flatten l.id r) ∙ not_right (has l.id (flatten k)) (has l.id (flatten r)) neither;
      below = p.0;
      behind = p.1;
      apart = λ i h. sym (has-flatten i k) ∙ apart_has i (flatten k) (flatten r) p.2 (has-flatten i r ∙ h);
    }

-- an identifier that is not below is another than the root's
pub other_id : (i j : ℕ) (f : Forest) → holds i f ≡ false → holds j f ≡ true → eqb i j ≡ false
other_id i j f h k = grind (arith, eqb-true)

-- ---- a root's tree is found by its identifier

pub tree_at-root : (i : ℕ) (f : Forest) → Distinct f → has_root i f ≡ true → tree_at i f ≡ root_tree i f
tree_at-root i empty d h = refl
tree_at-root i (tree l k r) d h = let p = distinct_parts l k r d in grind (arith, root_held, tree_at-root i r p.behind)

pub put-root : (i : ℕ) (n f : Forest) → Distinct f → has_root i f ≡ true → with_kids i n f ≡ put i n f
put-root i n empty d h = refl
put-root i n (tree l k r) d h = let p = distinct_parts l k r d in grind (arith, root_held, put-root i n r p.behind)

-- ---- a node below a node

pub holds-tree_at : (i j : ℕ) (f : Forest) → holds j (tree_at i f) ≡ true → holds j f ≡ true
holds-tree_at i j empty h = absurd cc
holds-tree_at i j (tree l k r) h = grind (arith, or_true, holds-tree_at i j k, holds-tree_at i j r)

pub tree_at-inside : (i j : ℕ) (f : Forest) → Distinct f → holds j (tree_at i f) ≡ true → tree_at j f ≡ tree_at j (tree_at i f)
tree_at-inside i j empty d h = refl
tree_at-inside i j (tree l k r) d h = let p = distinct_parts l k r d in grind (arith, other_id, holds-tree_at, tree_at-inside i j k p.below, tree_at-inside i j r p.behind)

-- ---- the trees of a forest, one by one

pub nth_root : (n : ℕ) (f : Forest) → n < arity f → has_root (root_id (tree_nth n f)) f ≡ true
nth_root n empty h = absurd (omega arith)
nth_root zero (tree l k r) h = grind (arith, eq-eqb)
nth_root (suc n) (tree l k r) h = grind (arith, or_true, nth_root n r)

pub nth_tree_is : (n : ℕ) (f : Forest) → Distinct f → n < arity f → root_tree (root_id (tree_nth n f)) f ≡ tree_nth n f
nth_tree_is n empty d h = absurd (omega arith)
nth_tree_is zero (tree l k r) d h = grind (arith, eq-eqb)
nth_tree_is (suc n) (tree l k r) d h = let p = distinct_parts l k r d in grind (arith, other_id, root_held, nth_root, nth_tree_is n r p.behind)

-- the tree of a child, in the tree of its parent
child_below : (n : ℕ) (t : Forest) → Distinct t → arity t ≡ 1 → n < arity (kids t) → (holds (root_id (tree_nth n (kids t))) t ≡ true) × (tree_at (root_id (tree_nth n (kids t))) t ≡ tree_nth n (kids t))
child_below n t d e h = grind (arith, distinct_parts, nth_root, root_held, or_true, other_id, tree_at-root, nth_tree_is)

some_kids : (t : Forest) (n : ℕ) → n < arity (kids t) → 1 ≤ arity t
some_kids t n h = grind arith

pub distinct-tree_at : (i : ℕ) (f : Forest) → Distinct f → Distinct (tree_at i f)
distinct-tree_at i empty d = tt
distinct-tree_at i (tree l k r) d = let p = distinct_parts l k r d in grind (arith, has-append, has-flatten, append-nil, distinct-tree_at i k p.below, distinct-tree_at i r p.behind)

arity-tree_at : (i : ℕ) (f : Forest) → 1 ≤ arity (tree_at i f) → arity (tree_at i f) ≡ 1
arity-tree_at i empty h = absurd (omega arith)
arity-tree_at i (tree l k r) h = grind (arith, arity-tree_at i k, arity-tree_at i r)

-- the tree of a child
pub record IsChild (n i : ℕ) (f : Forest) : Type 0 where
  pub live : holds (root_id (tree_nth n (kids_of i f))) f ≡ true
  pub tree-is : tree_at (root_id (tree_nth n (kids_of i f))) f ≡ tree_nth n (kids_of i f)

pub child_tree : (n i : ℕ) (f : Forest) → Distinct f → n < arity (kids_of i f) → IsChild n i f
child_tree n i f d h = let b = child_below n (tree_at i f) (distinct-tree_at i f d) (arity-tree_at i f (some_kids (tree_at i f) n h)) h in grind (arith, holds-tree_at, tree_at-inside)

-- a node with children is a node
pub held_parent : (n i : ℕ) (f : Forest) → n < arity (kids_of i f) → holds i f ≡ true
held_parent n i empty h = absurd (omega arith)
held_parent n i (tree l k r) h = grind (arith, held_parent n i r)

-- no node before another has its identifier
pub not_before : (a : List Node) (n : Node) (b : List Node) → AreDistinct (a ++ n ∷ b) → has n.id a ≡ false
not_before a n b d = (AreApart-sym a (n ∷ b) (AreDistinct-parts a (n ∷ b) d).2).0

-- ---- the last tree

-- no other tree has the identifier of the last one's root
pub clear_front : (i : ℕ) (others t f : Forest) → f ≡ join others t → i ≡ root_id t → arity t ≡ 1 → Distinct f → has_root i others ≡ false
clear_front i others t f e h one d = grind (arith, flatten-join, not_before, no_root, has-flatten)
