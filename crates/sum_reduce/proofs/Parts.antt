-- The key of a term's part.
use Rattle.sum_reduce.proofs.Shared.{ℕ, ◌≤◌, ◌≡◌, eqb, cond, true, false, ap, ◌∙◌, arith, is_number, split_product, product_tree, part_of, is_reduced, Tree, Trees, count, is_mult, coefficient_length}
use Rattle.sum_reduce.proofs.Shared.{plain, children_of, IsExpression, Forest, tree_at, IsMeasured, long, measured, some_factors, product_part, Key, trees_behind, key_tree, IsKey}

whole_product : (t : Tree) → is_mult t ≡ true → 2 ≤ count (children_of t) → t ≡ product_tree (children_of t)
whole_product t m l = grind arith

-- what stands behind the coefficient
behind_coefficient : (ts : Trees) → IsMeasured ts → 1 ≤ count (split_product ts).factors → trees_behind (coefficient_length ts) ts ≡ (split_product ts).factors
behind_coefficient ts m l = grind arith

key_value : (t : Tree) (n : ℕ) → is_mult t ≡ true → is_reduced t ≡ true → is_number t ≡ false → n ≡ coefficient_length (children_of t)
    → cond (eqb n 0) t (product_tree (trees_behind n (children_of t))) ≡ part_of t
key_value t n m r h e =
    let l = long t m r in
    let some = some_factors t m r h in
    let is : product_tree (trees_behind n (children_of t)) ≡ part_of t = ap (λ (k : ℕ). product_tree (trees_behind k (children_of t))) e ∙ ap product_tree (behind_coefficient (children_of t) (measured t m r) some) ∙ product_part t m in
    grind (arith, is, whole_product t m l.two)

pub record IsPartKey (k : Key) (t : Tree) (f : Forest) : Type 0 where
  pub valid : IsKey k f
  pub value : key_tree k f ≡ part_of t

-- of a product
pub product_key : (i n : ℕ) (f : Forest) → IsExpression i f → is_mult (plain (tree_at i f)) ≡ true → is_reduced (plain (tree_at i f)) ≡ true → is_number (plain (tree_at i f)) ≡ false
    → n ≡ coefficient_length (children_of (plain (tree_at i f)))
    → IsPartKey (record { id = i; behind = n }) (plain (tree_at i f)) f
product_key i n f x m r h e = grind (arith, some_factors, key_value)
