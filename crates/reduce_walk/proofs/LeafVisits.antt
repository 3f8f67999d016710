-- A node's children as a walk comes to them, as long as they are leaves.
use Rattle.reduce_walk.proofs.Shared.{◌≡◌, ℕ, zero, suc, ◌<◌, ◌≤◌, List, ◌∷◌, ◌++◌, map, true, refl, sym, ap, ◌∙◌, arith, Payload, kind_of_payload, Tree, Trees, count, root_kind, eqb-true, State}
use Rattle.reduce_walk.proofs.Shared.{forest, IsExpression, AllExpressions, children_of, grown, nth, plain, plains, takes, Forest, empty, tree, arity, flatten, first_trees, rest_trees, node_of}
use Rattle.reduce_walk.proofs.Shared.{kids_of, tree_at, is_leaf, is_leaf_kind, arity-rest_trees, expression_child, expression_children, whole_child, visit_of, visits_of, Visit}
use Rattle.tree_handles.proofs.ForestLists.{no_trees as none_of, rest-once_more as rest_of_rest}

leaf_payload : (x : Payload) (n : ℕ) (ts : Trees) → takes x n ≡ true → is_leaf (grown x ts) ≡ is_leaf_kind (kind_of_payload x)
leaf_payload x n ts h = grind arith

no_kids : (x : Payload) (n : ℕ) → takes x n ≡ true → is_leaf_kind (kind_of_payload x) ≡ true → n ≡ 0
no_kids x n h k = grind (arith, eqb-true)

-- the first of some trees
record IsFirst (g : Forest) (v : Visit) (left : List Visit) : Type 0 where
  pub some : 1 ≤ arity g
  pub kind : is_leaf (plain (first_trees 1 g)) ≡ is_leaf_kind v.kind
  pub left-are : is_leaf_kind v.kind ≡ true → left ≡ visits_of (rest_trees 1 g)

first_visit : (g : Forest) (v : Visit) (left : List Visit) → AllExpressions (first_trees 1 g) → visits_of g ≡ v ∷ left → IsFirst g v left
first_visit empty v left w e = absurd cc
first_visit (tree l b r) v left w e =
    let here : visit_of (node_of l b) ≡ v = cc in
    let rest : map visit_of (flatten b ++ flatten r) ≡ left = cc in
    let kind = ap (λ (x : Visit). is_leaf_kind x.kind) here in
    record {
      some = omega arith;
      kind = leaf_payload l.payload (arity b) (plains b) w.0 ∙ kind;
      left-are = λ h. sym rest ∙ ap (λ (f : Forest). map visit_of (flatten f ++ flatten r)) (none_of b (no_kids l.payload (arity b) w.0 (kind ∙ h)));
    }

-- the next child, where those before it are leaves
pub record IsNextVisit (i n : ℕ) (v : Visit) (left : List Visit) (s : State) : Type 0 where
  pub within : n < count (children_of (plain (tree_at i (forest s))))
  pub kind : is_leaf (nth n (children_of (plain (tree_at i (forest s))))) ≡ is_leaf_kind v.kind
  pub left-are : is_leaf_kind v.kind ≡ true → left ≡ visits_of (rest_trees (suc n) (kids_of i (forest s)))

pub next_visit : {i n : ℕ} {xs left : List Visit} {v : Visit} (s : State) → IsExpression i (forest s) → xs ≡ visits_of (rest_trees n (kids_of i (forest s))) → xs ≡ v ∷ left → IsNextVisit i n v left s
next_visit {i = i} {n = n} {left = left} {v = v} s h e f =
    let k = kids_of i (forest s) in
    let p = first_visit (rest_trees n k) v left (whole_child n i (forest s) h.whole) (sym e ∙ f) in
    record {
      within = omega (arith, p.some, arity-rest_trees n k, expression_children i (forest s) h);
      kind = ap is_leaf (sym (expression_child n i (forest s) h)) ∙ p.kind;
      left-are = λ q. p.left-are q ∙ ap visits_of (rest_of_rest n k);
    }

-- a leaf is told by its kind
pub leaf_by_kind : (t : Tree) → is_leaf t ≡ is_leaf_kind (root_kind t)
leaf_by_kind t = grind arith
