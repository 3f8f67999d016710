-- Children of a tree of the language, read one after another.
use Rattle.tree_handles.proofs.Shared.{ℕ, suc, ◌<◌, ◌≤◌, ◌≡◌, List, [], ◌∷◌, sym, ◌∙◌, arith, count, State, root_ids, nth, plain, children_of, IsExpression}
use Rattle.tree_handles.proofs.{Shared.{rest_trees, tree_at, kids_of, Stands, forest}, ChildPlaces.{seen_child, step_on, no_more}, Readings.expression_children}

-- a node is the child at a place, and those behind it are left
pub record IsNextChild (i n x : ℕ) (left : List ℕ) (s : State) : Type 0 where
  pub within : n < count (children_of (plain (tree_at i (forest s))))
  pub expression : IsExpression x (forest s)
  pub tree : plain (tree_at x (forest s)) ≡ nth n (children_of (plain (tree_at i (forest s))))
  pub left-are : left ≡ root_ids (rest_trees (suc n) (kids_of i (forest s)))

pub next_child : {i n x : ℕ} {xs left : List ℕ} {s : State} → Stands s → IsExpression i (forest s) → xs ≡ root_ids (rest_trees n (kids_of i (forest s))) → xs ≡ x ∷ left → IsNextChild i n x left s
next_child {i = i} {n = n} {x = x} {left = left} {s = s} st h e f =
    let p = step_on n x left (kids_of i (forest s)) (sym e ∙ f) in
    let c = seen_child n i x s st (record { within = p.item-is.within; id-is = p.item-is.id-is }) in
    record {
      within = omega (arith, p.item-is.within, expression_children i (forest s) h);
      expression = c.expression h;
      tree = c.plain-is h;
      left-are = p.left-are;
    }

pub last_child : {i n : ℕ} {xs : List ℕ} {s : State} → Stands s → IsExpression i (forest s) → xs ≡ root_ids (rest_trees n (kids_of i (forest s))) → xs ≡ [] → count (children_of (plain (tree_at i (forest s)))) ≤ n
last_child {i = i} {n = n} {s = s} st h e f = omega (arith, no_more n (kids_of i (forest s)) (sym e ∙ f), expression_children i (forest s) h)
