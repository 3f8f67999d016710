-- Walks over nodes, and what they come to.
use Rattle.tree_handles.proofs.Shared.{◌≡◌, ℕ, zero, suc, ◌+◌, ◌-◌, ◌<◌, ◌≤◌, List, [], ◌∷◌, ◌++◌, length, drop, refl, sym, ap, ◌∙◌, subst, arith, true, eq-eqb, length-append, length-map, map-append}
use Rattle.tree_handles.proofs.Shared.{Header, Node, header_of, used, place_of, first_of, since, until, IsBoundary, State, IsPool, until-since, length_le_used, Visit, Label, Forest, empty, tree, join}
use Rattle.tree_handles.proofs.Shared.{arity, node_of, flatten, first_trees, rest_trees, forest_of, kids, nodes_in, holds, tree_at, kids_of, Stands, forest, visit_of, visits_of, visit_at, AreFound}
use Rattle.tree_handles.proofs.{Shared.{BeginsTrees, skip, items_from_drains, YieldsList-from_first, map, Option, Some, IsSome, YieldsFirst, Drains}, Distinct.{Distinct, distinct_parts}}
use Rattle.tree_handles.proofs.{Distinct.{distinct-tree_at, holds-tree_at, tree_at-inside, other_id}, Measures.{before}, Nths.{first_trees-behind}, Releases.{arity_le}, Forests.{arity-join}}
use Rattle.tree_handles.proofs.{Forests.{arity-rest_trees, first-rest, flatten-join, forest_of-flatten, nodes-flatten}, Parts.{is_before, kid_here, live_at}}
use Rattle.std.proofs.Common.{append-nil}

-- ---- the pool's side

-- the trees that stand first
first_are : {n : ℕ} {ns : List Node} (b : BeginsTrees n ns) → first_trees n (forest_of ns) ≡ b.trees
first_are {n = n} b = ap (λ (ns : List Node). first_trees n (forest_of ns)) b.nodes ∙ ap (first_trees n) (forest_of-flatten b.trees b.behind) ∙ first_trees-behind n b.trees (forest_of b.behind) (sym b.many)

-- a walk over some trees begins at a place
pub record IsWalk (n at : ℕ) (f : Forest) (ns : List Node) : Type 0 where
  pub begins : BeginsTrees n (since at ns)
  pub shows : visits_of (first_trees n (forest_of (since at ns))) ≡ visits_of f

walk_at : (n at : ℕ) (f : Forest) (ns behind : List Node) → since at ns ≡ flatten f ++ behind → arity f ≡ n → IsWalk n at f ns
walk_at n at f ns behind e m =
    let b : BeginsTrees n (since at ns) = record { trees = f; behind = behind; nodes = e; many = m } in
    record { begins = b; shows = ap visits_of (first_are b) }

pub walk_of : (i at : ℕ) (s : State) → Stands s → holds i (forest s) ≡ true → at ≡ place_of i s.nodes → IsWalk 1 at (tree_at i (forest s)) s.nodes
walk_of i at s st h e =
    let p = before i at s st h e in
    let t = tree p.label p.below empty in
    let nodes : since at s.nodes ≡ flatten t ++ p.behind = p.nodes ∙ ap (λ (x : List Node). node_of p.label p.below ∷ (x ++ p.behind)) (sym (append-nil (flatten p.below))) in
    walk_at 1 at (tree_at i (forest s)) s.nodes p.behind (nodes ∙ ap (λ (f : Forest). flatten f ++ p.behind) (sym p.tree-is)) (ap arity p.tree-is)

pub walk_below : (i from at : ℕ) (s : State) → Stands s → holds i (forest s) ≡ true → from ≤ arity (kids_of i (forest s)) → IsBoundary at s.nodes → since at s.nodes ≡ skip from (drop 1 (since (place_of i s.nodes) s.nodes)) → IsWalk (arity (kids_of i (forest s)) - from) at (rest_trees from (kids_of i (forest s))) s.nodes
walk_below i from at s st h within b r =
    let p = live_at i s h in
    let k = kid_here i from at s p st within b r in
    walk_at (arity (kids_of i (forest s)) - from) at (rest_trees from (kids_of i (forest s))) s.nodes p.after k.rest (arity-rest_trees from (kids_of i (forest s)))

-- a node is left
pub walk_inside : {n : ℕ} (at : ℕ) (ns : List Node) → IsBoundary at ns → BeginsTrees n (since at ns) → 0 < n → at < used ns
walk_inside {n = n} at ns b t some = by t.trees t.nodes t.many
  where
    by : (f : Forest) → since at ns ≡ flatten f ++ t.behind → arity f ≡ n → at < used ns
    by empty e m = absurd (omega arith)
    by (tree l k r) e m = is_before at ns ((flatten k ++ flatten r) ++ t.behind) (node_of l k) b e

-- there are few trees
pub walk_few : {n : ℕ} (at : ℕ) (s : State) → IsPool s → BeginsTrees n (since at s.nodes) → n ≤ 65535
walk_few at s p t =
    omega (arith, t.many, arity_le t.trees, ap length (until-since at s.nodes), length-append (until at s.nodes) (since at s.nodes), ap length t.nodes, length-append (flatten t.trees) t.behind, length_le_used s.nodes, p.fits, p.size.most)

-- the next node, and the trees that are left behind it
pub record IsStep (owed still : ℕ) (ns rest : List Node) : Type 0 where
  pub left : BeginsTrees still rest
  pub shows : visits_of (first_trees owed (forest_of ns)) ≡ visit_of (first_of ns) ∷ visits_of (first_trees still (forest_of rest))

tail_is : (xs : List Node) (n m : Node) (ys zs : List Node) → xs ≡ n ∷ ys → xs ≡ m ∷ zs → ys ≡ zs
tail_is xs n m ys zs e h = cc

pub walk_step : {owed : ℕ} {ns : List Node} (children : ℕ) (rest : List Node) → BeginsTrees owed ns → 0 < owed → ns ≡ first_of ns ∷ rest → children ≡ (first_of ns).children → IsStep owed (owed - 1 + children) ns rest
walk_step {owed = owed} {ns = ns} children rest b some e c = by b.trees b.nodes b.many (first_are b)
  where
    by : (f : Forest) → ns ≡ flatten f ++ b.behind → arity f ≡ owed → first_trees owed (forest_of ns) ≡ f → IsStep owed (owed - 1 + children) ns rest
    by empty n m q = absurd (omega arith)
    by (tree l k r) n m q =
        let here : first_of ns ≡ node_of l k = ap first_of n in
        let told : children ≡ arity k = c ∙ ap (λ (x : Node). x.children) here in
        let behind : rest ≡ (flatten k ++ flatten r) ++ b.behind = tail_is ns (first_of ns) (node_of l k) rest ((flatten k ++ flatten r) ++ b.behind) e n in
        let left : BeginsTrees (owed - 1 + children) rest = record {
          trees = join k r;
          behind = b.behind;
          nodes = behind ∙ ap (λ (x : List Node). x ++ b.behind) (sym (flatten-join k r));
          many = omega (arith, arity-join k r, told);
        } in
        record {
          left = left;
          shows = ap visits_of q ∙ ap (λ (x : List Node). visit_of (node_of l k) ∷ map visit_of x) (sym (flatten-join k r)) ∙ ap (λ (x : Node). visit_of x ∷ visits_of (join k r)) (sym here)
              ∙ ap (λ (f : Forest). visit_of (first_of ns) ∷ visits_of f) (sym (first_are left));
        }

-- the visit that a header tells
abbrev pub visit_by : Header → ℕ → Visit
visit_by h i = record { kind = h.kind; id = i; children = h.children }

pub visit_told : {h : Header} {i : ℕ} (n : Node) → h ≡ header_of n → i ≡ h.id → visit_by h i ≡ visit_of n
visit_told {h = h} n e q = ap (visit_by h) q ∙ ap (λ (x : Header). visit_by x x.id) e

-- ---- the caller's side

-- the next visit is that of the first tree's root, and those of its children and of the other trees are left
pub visit_here : {v : Visit} {left : List Visit} (l : Label) (k r : Forest) → visits_of (tree l k r) ≡ v ∷ left → v ≡ visit_of (node_of l k)
visit_here l k r e = cc

pub visits_left : {v : Visit} {left : List Visit} (l : Label) (k r : Forest) → visits_of (tree l k r) ≡ v ∷ left → left ≡ visits_of (join k r)
visits_left l k r e = grind (arith, flatten-join)

pub visits-join : (f g : Forest) → visits_of (join f g) ≡ visits_of f ++ visits_of g
visits-join f g = ap (map visit_of) (flatten-join f g) ∙ map-append visit_of (flatten f) (flatten g)

pub visits-first_rest : (n : ℕ) (f : Forest) → visits_of f ≡ visits_of (first_trees n f) ++ visits_of (rest_trees n f)
visits-first_rest n f = ap visits_of (sym (first-rest n f)) ∙ visits-join (first_trees n f) (rest_trees n f)

pub no_visit : (f : Forest) → visits_of f ≡ [] → f ≡ empty
no_visit empty e = refl
no_visit (tree l k r) e = absurd cc

-- ---- trees by their identifiers

pub found-join : (base f g : Forest) → AreFound base f → AreFound base g → AreFound base (join f g)
found-join base empty g p q = q
found-join base (tree l k r) g p q = (p.0, p.1, found-join base r g p.2 q)

pub found-first_trees : (base : Forest) (n : ℕ) (f : Forest) → AreFound base f → AreFound base (first_trees n f)
found-first_trees base (suc n) (tree l k r) h = (h.0, h.1, found-first_trees base n r h.2)
found-first_trees base n f h = tt

pub found-rest_trees : (base : Forest) (n : ℕ) (f : Forest) → AreFound base f → AreFound base (rest_trees n f)
found-rest_trees base zero f h = h
found-rest_trees base (suc n) empty h = tt
found-rest_trees base (suc n) (tree l k r) h = found-rest_trees base n r h.2

pub found-kids : (base f : Forest) → AreFound base f → AreFound base (kids f)
found-kids base f h = grind arith

-- a forest that has the trees of another where it has them
record HasTrees (base f : Forest) : Type 0 where
  pub has : (i : ℕ) → holds i f ≡ true → (holds i base ≡ true) × (tree_at i base ≡ tree_at i f)

has_below : (base : Forest) (l : Label) (k r : Forest) → Distinct (tree l k r) → HasTrees base (tree l k r) → HasTrees base k
has_below base l k r d h = grind (arith, other_id, distinct_parts)

has_behind : (base : Forest) (l : Label) (k r : Forest) → Distinct (tree l k r) → HasTrees base (tree l k r) → HasTrees base r
has_behind base l k r d h = grind (arith, distinct_parts, other_id)

found_all : (base f : Forest) → Distinct f → HasTrees base f → AreFound base f
found_all base empty d h = tt
found_all base (tree l k r) d h =
    let p = distinct_parts l k r d in
    let root : holds l.id (tree l k r) ≡ true = rw (eq-eqb l.id) refl in
    let same : tree_at l.id (tree l k r) ≡ tree l k empty = rw (eq-eqb l.id) refl in
    (((h.has l.id root).0, (h.has l.id root).1 ∙ same), found_all base k p.below (has_below base l k r d h), found_all base r p.behind (has_behind base l k r d h))

-- so are the nodes of a pool's tree
pub found : (i : ℕ) (s : State) → Stands s → AreFound (forest s) (tree_at i (forest s))
found i s h = grind (arith, found_all, distinct-tree_at, holds-tree_at, tree_at-inside)

-- what a visit tells of its node
pub record IsSeen (v : Visit) (label : Label) (below base : Forest) : Type 0 where
  pub live : holds v.id base ≡ true
  pub tree-is : tree_at v.id base ≡ tree label below empty
  pub visit-is : v ≡ visit_at v.id base

pub seen : {base : Forest} {v : Visit} (l : Label) (k r : Forest) → AreFound base (tree l k r) → v ≡ visit_of (node_of l k) → IsSeen v l k base
seen l k r h e = grind arith

-- how many there are
pub visits_length : (f : Forest) → length (visits_of f) ≡ nodes_in f
visits_length f = length-map (flatten f) visit_of ∙ nodes-flatten f

-- ---- calls of next

abbrev pub Steps : List Visit → Option Visit → List Visit → Type 0
Steps = YieldsFirst (λ (xs : List Visit). xs)

-- a node comes where one is left
pub some_next : (r : Option Visit) (xs left : List Visit) → Steps xs r left → 0 < length xs → IsSome r
some_next r xs left e h = grind arith

pub next_is : (r : Option Visit) (v : Visit) (xs left : List Visit) → Steps xs r left → r ≡ Some v → xs ≡ v ∷ left
next_is r v xs left e q = subst (λ (o : Option Visit). Steps xs o left) q e

-- as many come as are left
pub drained : (left xs : List Visit) → Drains Steps left xs → length xs ≡ length left
drained left xs d = sym (length-map xs (λ (v : Visit). v)) ∙ ap length (items_from_drains {steps = Steps} {v = λ (v : Visit). v} xs (d.1.0, d.1.1, λ w. (d.0, d.1.2)) (YieldsList-from_first (λ (v : Visit). v) (λ (ys : List Visit). ys) left refl))
