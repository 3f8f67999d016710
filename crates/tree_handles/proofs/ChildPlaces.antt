-- Children one after another.
use Rattle.tree_handles.proofs.Shared.{◌≡◌, ℕ, zero, suc, ◌+◌, ◌-◌, ◌<◌, ◌≤◌, List, [], ◌∷◌, ◌++◌, length, drop, refl, sym, ap, ◌∙◌, subst, arith, append_assoc, true, Node, used, has, first_of}
use Rattle.tree_handles.proofs.Shared.{place_of, since, IsBoundary, State, used-append, size_from, root_ids, IsChildAt, AreSiblings, nth, plain, IsExpression, AllExpressions, children_of, Forest}
use Rattle.tree_handles.proofs.Shared.{empty, tree, join, arity, root_id, node_of, first_trees, rest_trees, forest_of, flatten, tree_nth, holds, kids_of, tree_at, Stands, forest, skip, IsChildPlace}
use Rattle.tree_handles.proofs.{Distinct.{distinct, child_tree, held_parent}, Forests.{forest_of-flatten, flatten-first_rest, skip-first, arity-join, arity-rest_trees}, Nths.{first_trees-behind}}
use Rattle.tree_handles.proofs.{Parts.{is_before, kid, kid_here, found_behind, found_tree, live_at, live_node}, Readings.{expression_child, whole_child}}

-- ---- a walk over trees

rest_trees-sum : (m n : ℕ) (f : Forest) → rest_trees n (rest_trees m f) ≡ rest_trees (n + m) f
rest_trees-sum zero n f = ap (λ (k : ℕ). rest_trees k f) {x = n} (omega arith)
rest_trees-sum (suc m) n empty = nothing n ∙ sym (nothing (n + suc m))
  where
    nothing : (k : ℕ) → rest_trees k empty ≡ empty
    nothing zero = refl
    nothing (suc k) = refl
rest_trees-sum (suc m) n (tree l k r) = rest_trees-sum m n r ∙ ap (λ (j : ℕ). rest_trees j (tree l k r)) {x = suc (n + m)} (omega arith)

-- behind some trees the others begin
pub forest_of-skip : (k : ℕ) (ns : List Node) → forest_of (skip k ns) ≡ rest_trees k (forest_of ns)
unfolding forest_of
forest_of-skip zero ns = refl
forest_of-skip (suc k) [] = refl
forest_of-skip (suc k) (n ∷ ns) = forest_of-skip (k + n.children) ns ∙ sym (rest_trees-sum n.children k (forest_of ns))

first_id : (ns : List Node) → 0 < arity (forest_of ns) → (ns ≡ first_of ns ∷ drop 1 ns) × (root_id (forest_of ns) ≡ (first_of ns).id)
unfolding forest_of
first_id ns h = grind arith

ids_step : (left : ℕ) (f : Forest) → 0 < left → left ≤ arity f → root_ids (first_trees left f) ≡ root_id f ∷ root_ids (first_trees (left - 1) (rest_trees 1 f))
ids_step left f h k = grind arith

-- the next of some trees that begin at a place
pub record IsNext (left place next : ℕ) (ns : List Node) : Type 0 where
  pub inside : place < used ns
  pub left-are : left - 1 ≤ arity (forest_of (since next ns))
  pub ids : root_ids (first_trees left (forest_of (since place ns))) ≡ (first_of (since place ns)).id ∷ root_ids (first_trees (left - 1) (forest_of (since next ns)))

pub next : (left place : ℕ) (ns : List Node) → 0 < left → IsBoundary place ns → left ≤ arity (forest_of (since place ns)) → place < used ns
next left place ns some b h = is_before place ns _ _ b (first_id (since place ns) (omega arith)).0

pub next_is : (left place to : ℕ) (ns : List Node) → 0 < left → IsBoundary place ns → left ≤ arity (forest_of (since place ns)) → since to ns ≡ skip 1 (since place ns) → IsNext left place to ns
next_is left place to ns some b h e =
    let f = forest_of (since place ns) in
    let behind : forest_of (since to ns) ≡ rest_trees 1 f = ap forest_of e ∙ forest_of-skip 1 (since place ns) in
    record {
      inside = next left place ns some b h;
      left-are = omega (arith, ap arity behind, arity-rest_trees 1 f);
      ids = ids_step left f some h ∙ ap (λ (i : ℕ). i ∷ root_ids (first_trees (left - 1) (rest_trees 1 f))) (first_id (since place ns) (omega arith)).1
          ∙ ap (λ (g : Forest). (first_of (since place ns)).id ∷ root_ids (first_trees (left - 1) g)) (sym behind);
    }

-- the place of the next is known where one is left
pub next_or_none : (left place to : ℕ) (ns : List Node) → 0 < left → IsBoundary place ns → left ≤ arity (forest_of (since place ns)) → (0 < left - 1 → since to ns ≡ skip 1 (since place ns)) → IsNext left place to ns
next_or_none zero place to ns some b h e = absurd (omega arith)
next_or_none (suc zero) place to ns some b h e = grind (arith, next, ids_step, first_id)
next_or_none (suc (suc n)) place to ns some b h e = next_is (suc (suc n)) place to ns some b h (e (omega arith))

-- ---- the children of a node

-- children that begin at a place
pub record AreListed (i from place : ℕ) (s : State) : Type 0 where
  pub many : arity (kids_of i (forest s)) - from ≤ arity (forest_of (since place s.nodes))
  pub ids : root_ids (first_trees (arity (kids_of i (forest s)) - from) (forest_of (since place s.nodes))) ≡ root_ids (rest_trees from (kids_of i (forest s)))

pub listed : (i from place : ℕ) (s : State) → Stands s → holds i (forest s) ≡ true → from ≤ arity (kids_of i (forest s)) → IsBoundary place s.nodes → since place s.nodes ≡ skip from (drop 1 (since (place_of i s.nodes) s.nodes)) → AreListed i from place s
listed i from place s st h within b r =
    let p = live_at i s h in
    let k = kid_here i from place s p st within b r in
    let f = rest_trees from (kids_of i (forest s)) in
    let here : forest_of (since place s.nodes) ≡ join f (forest_of p.after) = ap forest_of k.rest ∙ forest_of-flatten f p.after in
    let count = arity-rest_trees from (kids_of i (forest s)) in
    let all : first_trees (arity (kids_of i (forest s)) - from) (join f (forest_of p.after)) ≡ f = first_trees-behind _ f (forest_of p.after) (sym count) in
    record {
      many = omega (arith, ap arity here, arity-join f (forest_of p.after), count);
      ids = ap (λ (g : Forest). root_ids (first_trees (arity (kids_of i (forest s)) - from) g)) here ∙ ap root_ids all;
    }

-- ---- what a caller knows of an identifier from the list

pub record IsItem (n x : ℕ) (f : Forest) : Type 0 where
  pub within : n < arity f
  pub id-is : x ≡ root_id (tree_nth n f)

-- an identifier behind others in the list
pub item : (xs : List ℕ) (x : ℕ) (ys : List ℕ) (f : Forest) → root_ids f ≡ xs ++ (x ∷ ys) → IsItem (length xs) x f
item xs x ys empty e = absurd (none xs e)
  where
    none : (zs : List ℕ) → [] ≡ zs ++ (x ∷ ys) → ⊥
    none [] e = absurd cc
    none (z ∷ zs) e = absurd cc
item [] x ys (tree l k r) e = record { within = omega arith; id-is = cc }
item (z ∷ xs) x ys (tree l k r) e = grind (arith, item xs x ys r (ap (drop 1) e))

-- the next identifier from the list of those from a place on
pub record IsStep (n x : ℕ) (left : List ℕ) (f : Forest) : Type 0 where
  pub item-is : IsItem n x f
  pub left-are : left ≡ root_ids (rest_trees (suc n) f)

pub step_on : (n x : ℕ) (left : List ℕ) (f : Forest) → root_ids (rest_trees n f) ≡ x ∷ left → IsStep n x left f
step_on zero x left (tree l k r) e = record { item-is = record { within = omega arith; id-is = cc }; left-are = cc }
step_on (suc n) x left (tree l k r) e = grind (arith, step_on n x left r e)
step_on n x left f e = absurd cc

-- none is left behind the last
pub no_more : (n : ℕ) (f : Forest) → root_ids (rest_trees n f) ≡ [] → arity f ≤ n
no_more n empty e = omega arith
no_more zero (tree l k r) e = absurd cc
no_more (suc n) (tree l k r) e = omega (arith, no_more n r e)

-- a child of a node, as the readers see it
pub record IsSeenChild (n i x : ℕ) (f : Forest) : Type 0 where
  pub live : holds x f ≡ true
  pub tree-is : tree_at x f ≡ tree_nth n (kids_of i f)
  pub expression : IsExpression i f → IsExpression x f
  pub plain-is : IsExpression i f → plain (tree_at x f) ≡ nth n (children_of (plain (tree_at i f)))

pub seen_child : (n i x : ℕ) (s : State) → Stands s → IsChildAt n i x (forest s) → IsSeenChild n i x (forest s)
seen_child n i x s st h =
    let f = forest s in
    let c = child_tree n i f (distinct s st) h.within in
    let live : holds x f ≡ true = ap (λ (j : ℕ). holds j f) h.id-is ∙ c.live in
    let same : tree_at x f ≡ tree_nth n (kids_of i f) = ap (λ (j : ℕ). tree_at j f) h.id-is ∙ c.tree-is in
    record {
      live = live;
      tree-is = same;
      expression = λ e. record { live = live; whole = subst AllExpressions (sym same) (whole_child n i f e.whole) };
      plain-is = λ e. ap plain same ∙ expression_child n i f e;
    }

-- ---- the places of children

-- where a child begins
pub record IsPlaced (n i x : ℕ) (s : State) : Type 0 where
  pub live : has x s.nodes ≡ true
  pub boundary : IsBoundary (place_of x s.nodes) s.nodes
  pub rest : since (place_of x s.nodes) s.nodes ≡ skip n (drop 1 (since (place_of i s.nodes) s.nodes))

pub placed : (n i x : ℕ) (s : State) → Stands s → IsChildAt n i x (forest s) → IsPlaced n i x s
placed n i x s st h =
    let p = live_at i s (held_parent n i (forest s) h.within) in
    let k = kids_of i (forest s) in
    let z = kid n i x (forest s) p h in
    let q = found_tree x (tree_nth n k) _ _ s.nodes st.pool.distinct z.single z.root (st.flat ∙ z.flat) in
    let parent = found_behind i (node_of p.label k) p.before (flatten k ++ p.after) s.nodes p.first p.id-is (st.flat ∙ p.flat) in
    record {
      live = live_node x s st (seen_child n i x s st h).live;
      boundary = q.boundary;
      rest = q.here ∙ sym (ap (λ (l : List Node). skip n (drop 1 l)) parent.here ∙ skip-first n k p.after (omega (arith, h.within))
          ∙ ap (λ (l : List Node). l ++ p.after) (flatten-first_rest 1 (rest_trees n k)) ∙ simp append_assoc);
    }

-- what stands before a child rises with its place
rises : (n m : ℕ) (f : Forest) → n < m → m ≤ arity f → used (flatten (first_trees n f)) < used (flatten (first_trees m f))
rises zero (suc m) (tree l k r) lt h = omega (arith, size_from (node_of l k))
rises (suc n) (suc m) (tree l k r) lt h =
    omega (arith, used-append (flatten k) (flatten (first_trees n r)), used-append (flatten k) (flatten (first_trees m r)), rises n m r (omega arith) (omega arith))
rises n m f lt h = absurd (omega arith)

-- two children are in the order of the places where they begin
pub record AreOrdered (n m x y : ℕ) (s : State) : Type 0 where
  pub rising : place_of x s.nodes < place_of y s.nodes → n < m
  pub equal : place_of x s.nodes ≡ place_of y s.nodes → n ≡ m

pub ordered : (i n x m y : ℕ) (s : State) → Stands s → AreSiblings i n x m y (forest s) → AreOrdered n m x y s
ordered i n x m y s st h =
    let p = live_at i s (held_parent n i (forest s) h.first.within) in
    let k = kids_of i (forest s) in
    let a = kid n i x (forest s) p h.first in
    let b = kid m i y (forest s) p h.second in
    let one = (found_tree x (tree_nth n k) _ _ s.nodes st.pool.distinct a.single a.root (st.flat ∙ a.flat)).start ∙ used-append p.before (node_of p.label k ∷ flatten (first_trees n k)) in
    let two = (found_tree y (tree_nth m k) _ _ s.nodes st.pool.distinct b.single b.root (st.flat ∙ b.flat)).start ∙ used-append p.before (node_of p.label k ∷ flatten (first_trees m k)) in
    record {
      rising = λ e. grind (arith, one, two, rises m n k);
      equal = λ e. grind (arith, one, two, rises n m k, rises m n k);
    }

pub turned : {i n x m y : ℕ} {f : Forest} → AreSiblings i n x m y f → AreSiblings i m y n x f
turned h = record { first = h.second; second = h.first }

-- ---- a child that is known by its identifier

pub known_place : (n i x place : ℕ) (s : State) → Stands s → IsChildAt n i x (forest s) → place ≡ place_of x s.nodes → IsChildPlace n i place s
known_place n i x place s st h e =
    let a = placed n i x s st h in
    record { within = omega (arith, h.within); boundary = subst (λ (k : ℕ). IsBoundary k s.nodes) (sym e) a.boundary; rest = ap (λ (k : ℕ). since k s.nodes) e ∙ a.rest }
