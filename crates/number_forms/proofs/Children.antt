-- Children, one after another.
use Rattle.number_forms.proofs.Shared.{◌≡◌, ℕ, zero, suc, ◌+◌, ◌<◌, ◌≤◌, List, [], ◌∷◌, ◌++◌, length, length-append, sym, ap, ◌∙◌, append_assoc, arith, count, State, root_ids, nth, plain, children_of}
use Rattle.number_forms.proofs.Shared.{IsExpression, Forest, empty, tree, arity, root_id, first_trees, rest_trees, tree_at, kids_of, Stands, forest, few_in, item, seen_child, rest-rest, kids_below}
use Rattle.number_forms.proofs.Shared.{length-root_ids, children_number}

-- the children of a node from a place on are those that were passed, and those left
pub record AreLeft (from i : ℕ) (passed left : List ℕ) (f : Forest) : Type 0 where
  pub ids : root_ids (rest_trees from (kids_of i f)) ≡ passed ++ left

pub left_more : {from i : ℕ} {f : Forest} (passed left : List ℕ) (x : ℕ) (rest : List ℕ) → AreLeft from i passed left f → left ≡ x ∷ rest → AreLeft from i (passed ++ (x ∷ [])) rest f
left_more passed left x rest h e = record { ids = h.ids ∙ ap (λ (ys : List ℕ). passed ++ ys) e ∙ sym (append_assoc passed (x ∷ []) rest) }

-- ---- a child that comes next

arity_rest : (m : ℕ) (f : Forest) → m ≤ arity f → arity (rest_trees m f) + m ≡ arity f
arity_rest zero f h = omega arith
arity_rest (suc m) empty h = absurd (omega arith)
arity_rest (suc m) (tree l k r) h = let e = arity_rest m r (omega arith) in omega (arith, e)

-- the next child, at a place among all children
pub record IsNextChild (n i x : ℕ) (s : State) : Type 0 where
  pub within : n < count (children_of (plain (tree_at i (forest s))))
  pub expression : IsExpression x (forest s)
  pub is : plain (tree_at x (forest s)) ≡ nth n (children_of (plain (tree_at i (forest s))))

pub next_child : (from n i : ℕ) (passed left : List ℕ) (x : ℕ) (rest : List ℕ) (s : State) → Stands s → IsExpression i (forest s)
    → from ≤ count (children_of (plain (tree_at i (forest s)))) → n ≡ from + length passed → AreLeft from i passed left (forest s) → left ≡ x ∷ rest → IsNextChild n i x s
next_child from n i passed left x rest s st e w m h q =
    let f = forest s in
    let many = children_number i f e in
    let p = item passed x rest (rest_trees from (kids_of i f)) (h.ids ∙ ap (λ (ys : List ℕ). passed ++ ys) q) in
    let within : n < arity (kids_of i f) = omega (arith, p.within, m, arity_rest from (kids_of i f) (omega (arith, w, many))) in
    let place : rest_trees (length passed) (rest_trees from (kids_of i f)) ≡ rest_trees n (kids_of i f) =
    rest-rest from (length passed) (kids_of i f) ∙ ap (λ (k : ℕ). rest_trees k (kids_of i f)) (sym m) in
    let c = seen_child n i x s st (record { within = within; id-is = p.id-is ∙ ap (λ (g : Forest). root_id (first_trees 1 g)) place }) in
    record { within = omega (arith, within, many); expression = c.expression e; is = c.plain-is e }

-- no child is left
pub none_left : (from n i : ℕ) (passed left : List ℕ) (s : State) → IsExpression i (forest s) → from ≤ count (children_of (plain (tree_at i (forest s)))) → n ≡ from + length passed
    → AreLeft from i passed left (forest s) → left ≡ [] → n ≡ count (children_of (plain (tree_at i (forest s))))
none_left from n i passed left s e w m h q =
    let f = forest s in
    let many = children_number i f e in
    let all = ap length (h.ids ∙ ap (λ (ys : List ℕ). passed ++ ys) q) in
    omega (arith, all, m, length-root_ids (rest_trees from (kids_of i f)), arity_rest from (kids_of i f) (omega (arith, w, many)), many, length-append passed [])

-- ---- a node has few children

pub few_children : (i : ℕ) (s : State) → Stands s → arity (kids_of i (forest s)) ≤ 65535
few_children i s st = omega (arith, kids_below (tree_at i (forest s)), few_in i s st)
