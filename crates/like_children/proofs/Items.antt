-- Children by their identifiers.
use Rattle.like_children.proofs.Shared.{ℕ, suc, ◌<◌, ◌≤◌, ◌≡◌, List, [], ◌∷◌, sym, ap, ◌∙◌, arith, Tree, count, State, root_ids, nth, plain, children_of, IsExpression, arity, rest_trees, tree_of}
use Rattle.like_children.proofs.Shared.{IsHanded, tree_at, kids_of, Stands, forest, kids_of_root, plain_root, expression_root, count-plains, children_of-plain, seen_child, step_on, no_more}

pub children_count : {s : State} {i : ℕ} → Stands s → IsHanded i (forest s) → arity (kids_of i (forest s)) ≡ count (children_of (tree_of i s))
children_count h k = grind (arith, kids_of_root, count-plains, children_of-plain)

pub children_told : {s : State} {i j n : ℕ} → Stands s → IsHanded i (forest s) → j ≡ i → n ≡ arity (kids_of j (forest s)) → n ≡ count (children_of (tree_of i s))
children_told {s = s} st h e q = q ∙ ap (λ (k : ℕ). arity (kids_of k (forest s))) e ∙ children_count st h

-- a node is the child at a place, and those behind it are left
pub record IsChildHere (i n x : ℕ) (left : List ℕ) (s : State) : Type 0 where
  pub within : n < count (children_of (tree_of i s))
  pub expression : IsExpression x (forest s)
  pub tree : plain (tree_at x (forest s)) ≡ nth n (children_of (tree_of i s))
  pub left-are : left ≡ root_ids (rest_trees (suc n) (kids_of i (forest s)))

pub next_child : {i n x : ℕ} {xs left : List ℕ} {s : State} → Stands s → IsHanded i (forest s) → xs ≡ root_ids (rest_trees n (kids_of i (forest s))) → xs ≡ x ∷ left
    → IsChildHere i n x left s
next_child {i = i} {n = n} {x = x} {left = left} {s = s} st h e f =
    let p = step_on n x left (kids_of i (forest s)) (sym e ∙ f) in
    let c = seen_child n i x s st (record { within = p.item-is.within; id-is = p.item-is.id-is }) in
    record {
      within = omega (arith, p.item-is.within, children_count st h);
      expression = c.expression (expression_root st h);
      tree = c.plain-is (expression_root st h) ∙ ap (λ (t : Tree). nth n (children_of t)) (plain_root i st h.root);
      left-are = p.left-are;
    }

pub last_child : {i n : ℕ} {xs : List ℕ} {s : State} → Stands s → IsHanded i (forest s) → xs ≡ root_ids (rest_trees n (kids_of i (forest s))) → xs ≡ []
    → count (children_of (tree_of i s)) ≤ n
last_child {i = i} {n = n} {s = s} st h e f = omega (arith, no_more n (kids_of i (forest s)) (sym e ∙ f), children_count st h)
