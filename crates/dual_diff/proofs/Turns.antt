-- The turns of a loop over the children of a node.
use Rattle.dual_diff.proofs.Shared.{◌≡◌, ℕ, suc, ◌∷◌, ◌++◌, [], ◌∙◌, List, length, ap, arith, length-append, root_ids, Forest, rest_trees}

pub turn : (xs : List ℕ) (x : ℕ) → suc (length xs) ≡ length (xs ++ x ∷ [])
turn xs x = omega (arith, length-append xs (x ∷ []))

pub left_after : {left : List ℕ} (xs : List ℕ) (x : ℕ) (f : Forest) → left ≡ root_ids (rest_trees (suc (length xs)) f) → left ≡ root_ids (rest_trees (length (xs ++ x ∷ [])) f)
left_after xs x f e = e ∙ ap (λ (n : ℕ). root_ids (rest_trees n f)) (turn xs x)
