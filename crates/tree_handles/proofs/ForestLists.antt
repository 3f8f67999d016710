-- Trees behind one another: those from a place on, their number, and their identifiers.
use Rattle.tree_handles.proofs.Shared.{◌≡◌, ℕ, zero, suc, ◌+◌, ◌<◌, ◌≤◌, length, get_or, refl, sym, ap, ◌∙◌, arith, root_ids, Forest, empty, tree, arity, kids, nodes_in, rest_trees, root_id, tree_nth}

pub no_trees : (f : Forest) → arity f ≡ 0 → f ≡ empty
no_trees empty e = refl
no_trees (tree l k r) e = absurd (omega arith)

pub arity_nodes : (f : Forest) → arity f ≤ nodes_in f
arity_nodes empty = omega arith
arity_nodes (tree l k r) = omega (arith, arity_nodes r)

pub kids_below : (f : Forest) → arity (kids f) ≤ nodes_in f
kids_below empty = omega arith
kids_below (tree l k r) = omega (arith, arity_nodes k)

pub rest_trees-empty : (n : ℕ) → rest_trees n empty ≡ empty
rest_trees-empty zero = refl
rest_trees-empty (suc n) = refl

pub rest-rest : (m n : ℕ) (f : Forest) → rest_trees n (rest_trees m f) ≡ rest_trees (m + n) f
rest-rest zero n f = ap (λ (k : ℕ). rest_trees k f) (omega arith)
rest-rest (suc m) n empty = rest_trees-empty n ∙ sym (rest_trees-empty (suc m + n))
rest-rest (suc m) n (tree l k r) = let e : suc (m + n) ≡ suc m + n = omega arith in rest-rest m n r ∙ ap (λ (j : ℕ). rest_trees j (tree l k r)) e

pub rest-once_more : (n : ℕ) (f : Forest) → rest_trees 1 (rest_trees n f) ≡ rest_trees (suc n) f
rest-once_more zero f = refl
rest-once_more (suc n) empty = refl
rest-once_more (suc n) (tree l k r) = rest-once_more n r

pub length-root_ids : (f : Forest) → length (root_ids f) ≡ arity f
length-root_ids empty = refl
length-root_ids (tree l k r) = ap suc (length-root_ids r)

pub root_ids-nth : (n d : ℕ) (f : Forest) → n < arity f → get_or (root_ids f) n d ≡ root_id (tree_nth n f)
root_ids-nth n d empty h = absurd (omega arith)
root_ids-nth zero d (tree l k r) h = refl
root_ids-nth (suc n) d (tree l k r) h = root_ids-nth n d r (omega arith)
