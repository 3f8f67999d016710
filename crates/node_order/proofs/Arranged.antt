-- Children that are brought into an order, one place after another.
use Rattle.node_order.proofs.Shared.{◌≡◌, ℕ, ◌+◌, ◌<◌, ◌≤◌, List, length, take, get_or, sym, ap, ◌∙◌, subst, arith, true, All, IsPermutation, swap, range_with_len, take_all, All-get_or}
use Rattle.node_order.proofs.Shared.{All-permutation, IsPermutation-sym, picked_behind, State, root_ids, IsChildAt, AreSiblings, Forest, arity, kids, rest_trees, swapped_nth, kids_of, has_root}
use Rattle.node_order.proofs.Shared.{root_tree, put, Stands, forest, first-rest, arity-join, arity-first_trees, arity-rest_trees, kids_of_root, root-put, kids-put, put-put, put-same, root_ids-nth}
use Rattle.node_order.proofs.Shared.{rules, IsSorted, Tree, place_cmp, SortsChildren, plains, nth, AllExpressions, AllOnce}
use Rattle.node_order.proofs.{Picks.{AreInside, arity-picked, picked-swap, nth-picked_behind}, Places.{inside_range}, SortLaws.{picked-range, sorted_children}}

-- how the children stand: those from a place on are picked by a list of places
pub record IsArranged (i n : ℕ) (xs : List ℕ) (f g : Forest) : Type 0 where
  pub root : has_root i f ≡ true
  pub shape : g ≡ put i (picked_behind n xs (kids (root_tree i f))) f
  pub inside : AreInside (rest_trees n (kids (root_tree i f))) xs
  pub low : n ≤ arity (kids (root_tree i f))

pub arranged : (i n : ℕ) (xs ys : List ℕ) (f g : Forest) → has_root i f ≡ true → n + length ys ≡ arity (kids (root_tree i f)) → IsPermutation (range_with_len 0 (length ys)) ys
    → IsPermutation xs ys → g ≡ put i (picked_behind n xs (kids (root_tree i f))) f → IsArranged i n xs f g
arranged i n xs ys f g root all places moved shape =
    let many : length ys ≡ arity (rest_trees n (kids (root_tree i f))) = omega (arith, arity-rest_trees n (kids (root_tree i f))) in
    record {
      root = root;
      shape = shape;
      inside = All-permutation (λ k. k < arity (rest_trees n (kids (root_tree i f)))) ys xs (IsPermutation-sym xs ys moved) (subst (λ m. All (λ k. k < m) ys) many (inside_range (length ys) ys places));
      low = omega arith;
    }

pub arranged_kids : (i n : ℕ) (xs : List ℕ) (f g : Forest) → IsArranged i n xs f g → kids (root_tree i g) ≡ picked_behind n xs (kids (root_tree i f))
arranged_kids i n xs f g a = ap (λ (x : Forest). kids (root_tree i x)) a.shape ∙ kids-put i (picked_behind n xs (kids (root_tree i f))) f a.root

pub arranged_root : (i n : ℕ) (xs : List ℕ) (f g : Forest) → IsArranged i n xs f g → has_root i g ≡ true
arranged_root i n xs f g a = ap (has_root i) a.shape ∙ root-put i i (picked_behind n xs (kids (root_tree i f))) f ∙ a.root

-- a place of one of them
pub arranged_place : (i n at : ℕ) (xs : List ℕ) (f : Forest) (s : State) → Stands s → IsArranged i n xs f (forest s) → at < length xs → n + at < arity (kids_of i (forest s))
arranged_place i n at xs f s h a k = grind (arith, arranged_root, kids_of_root, arranged_kids, arity-join, arity-first_trees, arity-picked)

-- which child stands there, by the identifiers of the children as they stood at first
arranged_child : (i n at x d : ℕ) (xs : List ℕ) (f : Forest) (s : State) → Stands s → IsArranged i n xs f (forest s) → at < length xs
    → x ≡ get_or (root_ids (rest_trees n (kids (root_tree i f)))) (get_or xs at 0) d → IsChildAt (n + at) i x (forest s)
arranged_child i n at x d xs f s h a k e = grind (arith, kids_of_root, arranged_root, arranged_kids, arranged_place, root_ids-nth, All-get_or, nth-picked_behind)

-- two of them, each found in the list of the children as they stood at first
pub arranged_siblings : (i n at place here wanted x y : ℕ) (xs ids : List ℕ) (f : Forest) (s : State) → Stands s → IsArranged i n xs f (forest s)
    → ids ≡ root_ids (rest_trees n (kids (root_tree i f)))
    → at < length xs → place < length xs → here ≡ get_or xs at 0 → wanted ≡ get_or xs place 0 → x ≡ get_or ids here x → y ≡ get_or ids wanted y → AreSiblings i (n + at) x (n + place) y (forest s)
arranged_siblings i n at place here wanted x y xs ids f s st a whole low high e h p q = record {
  first = arranged_child i n at x x xs f s st a low (p ∙ (λ d. get_or (whole d) (e d) x));
  second = arranged_child i n place y y xs f s st a high (q ∙ (λ d. get_or (whole d) (h d) y));
}

-- two of them change places
pub arranged_swap : (i n at j : ℕ) (xs : List ℕ) (f g h : Forest) → IsArranged i n xs f g → at ≤ j → j < length xs → h ≡ put i (swapped_nth (n + at) (n + j) (kids (root_tree i g))) g
    → h ≡ put i (picked_behind n (swap xs at j) (kids (root_tree i f))) f
arranged_swap i n at j xs f g h a k l e = grind (arith, arranged_kids, put-put, picked-swap)

-- before the first change
pub arranged_start : (i n m : ℕ) (f : Forest) → n + m ≡ arity (kids (root_tree i f)) → f ≡ put i (picked_behind n (range_with_len 0 m) (kids (root_tree i f))) f
arranged_start i n m f h = grind (arith, picked-range, arity-rest_trees, first-rest, put-same)

pub all_placed : (xs ys : List ℕ) (at : ℕ) → length xs ≡ length ys → length ys ≤ at → take at xs ≡ take at ys → xs ≡ ys
all_placed xs ys at long h e = sym (take_all at xs (omega arith)) ∙ e ∙ take_all at ys h

-- one child is in order
lone_sorted : (n m : ℕ) (key : Tree → Tree) (k : Forest) → m ≤ 1 → IsSorted (place_cmp (λ j. key (nth (n + j) (plains k)))) (range_with_len 0 m)
lone_sorted n m key k le = grind arith

pub lone_child : (i n m : ℕ) (key : Tree → Tree) (f : Forest) → AllOnce (kids (root_tree i f)) → AllExpressions (kids (root_tree i f)) → n + m ≡ arity (kids (root_tree i f)) → m ≤ 1
    → SortsChildren i n key f f
lone_child i n m key f once whole all le =
    sorted_children i n m key (range_with_len 0 m) f f once whole all (search rules) (lone_sorted n m key (kids (root_tree i f)) le) (arranged_start i n m f all)
