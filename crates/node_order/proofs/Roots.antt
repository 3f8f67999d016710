-- The order of trees is that of their roots, and then that of their children.
use Rattle.node_order.proofs.Shared.{arith, ◌≡◌, refl, sym, ap, true, Ordering, Equal, nat_cmp, ordering_then, Payload, tree_cmp, trees_cmp, Tree, num, symbol, undef, add, mult, power, root, neg, sub}
use Rattle.node_order.proofs.Shared.{div, Trees, root_code, value_cmp, payload_cmp, grown, plains, takes, children_of, AllExpressions, Label, Forest, empty, arity, IsGrown, grown_whole, slice_cmp}
use Rattle.node_order.proofs.{Shared.{fraction_cmp, then-equal}, Orderings.{then_assoc}}

-- leaves of one kind by what they hold
abbrev leaf_cmp : Tree → Tree → Ordering
leaf_cmp (num p) u = elim u [ num q ↦ fraction_cmp p q | w ↦ Equal ]
leaf_cmp (symbol x) u = elim u [ symbol y ↦ slice_cmp nat_cmp x y | w ↦ Equal ]
leaf_cmp _ u = Equal

split : (t u : Tree) → tree_cmp t u ≡ ordering_then (nat_cmp (root_code t) (root_code u)) (ordering_then (leaf_cmp t u) (trees_cmp (children_of t) (children_of u)))
split (num p) (num q) = sym (then-equal _)
split (symbol x) (symbol y) = sym (then-equal _)
split undef undef = refl
split (add ts) (add us) = refl
split (mult ts) (mult us) = refl
split (power a b) (power c d) = ap (ordering_then (tree_cmp a c)) (sym (then-equal (tree_cmp b d)))
split (root a) (root c) = sym (then-equal (tree_cmp a c))
split (neg a) (neg c) = sym (then-equal (tree_cmp a c))
split (sub a b) (sub c d) = ap (ordering_then (tree_cmp a c)) (sym (then-equal (tree_cmp b d)))
split (div a b) (div c d) = ap (ordering_then (tree_cmp a c)) (sym (then-equal (tree_cmp b d)))
split _ _ = refl

leaf_grown : (x y : Payload) (ts us : Trees) → leaf_cmp (grown x ts) (grown y us) ≡ value_cmp x y
leaf_grown x y ts us = grind arith

label_with : Payload → Label
label_with x = record { id = 0; count = 0; payload = x }

pub is_grown : (x : Payload) (k : Forest) → takes x (arity k) ≡ true → AllExpressions k → IsGrown x (plains k)
unfolding label_with
is_grown x k h w = grown_whole (label_with x) k empty (h, w, tt)

-- the roots decide, and then the children
pub by_roots : (x y : Payload) (k j : Forest) → takes x (arity k) ≡ true → AllExpressions k → takes y (arity j) ≡ true → AllExpressions j
    → tree_cmp (grown x (plains k)) (grown y (plains j)) ≡ ordering_then (payload_cmp x y) (trees_cmp (plains k) (plains j))
by_roots x y k j h w m v = grind (arith, is_grown, split, leaf_grown, then_assoc)
