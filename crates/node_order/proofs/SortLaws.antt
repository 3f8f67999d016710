-- Sorted children, from the order of their places.
use Rattle.node_order.proofs.{Listing.{suc-add}, Shared.{rest-once_more, ◌≡◌, ℕ, zero, suc, ◌+◌, ◌-◌, ◌<◌, ◌≤◌, List, [], ◌∷◌, ◌++◌, length, take, drop, get_or, map, refl, sym, ap, ◌∙◌, subst, arith}}
use Rattle.node_order.proofs.Shared.{min, add-one, zero-add, All, IsPermutation, true, range_with_len, IsSorted, IsSortedByKey, IsStableByKey, is_lt, take-append_seam, drop-append_seam, get_or-map}
use Rattle.node_order.proofs.Shared.{length-map, IsPermutation-map, All-head, All-tail, tree_cmp, Tree, Trees, none, more, append, undef, Key, key_tree, place_cmp, ranked_tree, picked, picked_behind}
use Rattle.node_order.proofs.Shared.{list_of, IsSorting, KeepsTies, SortsChildren, plains, plain, nth, IsWhole, AllExpressions, Label, Forest, empty, tree, join, arity, first_trees, rest_trees}
use Rattle.node_order.proofs.Shared.{tree_nth, kids, AllNodes, IsOnce, AllOnce, State, tree_at, kids_of, Stands, forest, kids_of_root, has_root, root_tree, put, first-rest}
use Rattle.node_order.proofs.Shared.{arity-tree_nth, arity-first_trees, arity-rest_trees, all-join, all-first_trees, all-rest_trees, all-tree_nth, plains-join, plain-tree_nth, alone}
use Rattle.node_order.proofs.{Places.{range_inside, inside_range}, Picks.{AreInside}, Ties.{places_same, trees_rise, trees_stable}}

pub list_of-append : (ts us : Trees) → list_of (append ts us) ≡ list_of ts ++ list_of us
list_of-append none us = refl
list_of-append (more t ts) us = ap (λ (l : List Tree). t ∷ l) (list_of-append ts us)

-- the trees of a forest as a list
abbrev pub listed : Forest → List Tree
listed f = list_of (plains f)

pub listed-join : (f g : Forest) → listed (join f g) ≡ listed f ++ listed g
listed-join f g = ap list_of (plains-join f g) ∙ list_of-append (plains f) (plains g)

pub length-listed : (f : Forest) → length (listed f) ≡ arity f
length-listed empty = refl
length-listed (tree l k r) = ap suc (length-listed r)

pub listed-nth : (i : ℕ) (f : Forest) → i < arity f → listed (tree_nth i f) ≡ nth i (plains f) ∷ []
listed-nth i f h = ap list_of (alone (tree_nth i f) (arity-tree_nth i f h)) ∙ ap (λ (t : Tree). t ∷ []) (plain-tree_nth i f)

pub listed-picked : (xs : List ℕ) (f : Forest) → AreInside f xs → listed (picked xs f) ≡ map (λ i. nth i (plains f)) xs
listed-picked [] f h = refl
listed-picked (i ∷ xs) f h =
    listed-join (tree_nth i f) (picked xs f)
    ∙ (λ d. listed-nth i f (All-head (λ i. i < arity f) i xs h) d ++ listed-picked xs f (All-tail (λ i. i < arity f) i xs h) d)

-- ---- all places, as they are

none_rest : (a : ℕ) (f : Forest) → arity f ≤ a → rest_trees a f ≡ empty
none_rest zero empty h = refl
none_rest zero (tree l k r) h = absurd (omega arith)
none_rest (suc a) empty h = refl
none_rest (suc a) (tree l k r) h = none_rest a r (omega arith)

range_rest : (n a : ℕ) (f : Forest) → a + n ≡ arity f → picked (range_with_len a n) f ≡ rest_trees a f
range_rest zero a f e = sym (none_rest a f (omega arith))
range_rest (suc n) a f e = ap (λ k. join (tree_nth a f) (picked (range_with_len k n) f)) (add-one a) ∙ ap (join (tree_nth a f)) (range_rest n (suc a) f (omega arith)) ∙ ap (join (tree_nth a f)) (sym (rest-once_more a f)) ∙ first-rest 1 (rest_trees a f)

pub picked-range : (n : ℕ) (f : Forest) → n ≡ arity f → picked (range_with_len 0 n) f ≡ f
picked-range n f e = range_rest n 0 f (omega arith)

-- ---- the order of places, as one of trees

nth_none : (j : ℕ) → nth j none ≡ undef
nth_none j = grind arith

nth-rest : (n j : ℕ) (f : Forest) → nth (n + j) (plains f) ≡ nth j (plains (rest_trees n f))
nth-rest zero j f = ap (λ k. nth k (plains f)) (zero-add j)
nth-rest (suc n) j empty = nth_none (suc n + j) ∙ sym (nth_none j)
nth-rest (suc n) j (tree l k r) = ap (λ i. nth i (plains (tree l k r))) (suc-add n j) ∙ nth-rest n j r

sorted_map : (g : ℕ → Tree) (key : Tree → Tree) (ys : List ℕ) → IsSortedByKey (λ i. key (g i)) tree_cmp ys → IsSortedByKey key tree_cmp (map g ys)
sorted_map g key ys sorted = λ k d low high.
    let room : k + 1 < length ys = omega (arith, length-map ys g) in
    let above : get_or (map g ys) (k + 1) d ≡ g (get_or ys (k + 1) 0) = get_or-map g ys (k + 1) 0 d room in
    let below : get_or (map g ys) k d ≡ g (get_or ys k 0) = get_or-map g ys k 0 d (omega arith) in
    (λ i. is_lt (tree_cmp (key (above i)) (key (below i)))) ∙ sorted k 0 low room

all-picked : (P : Label → ℕ → Type 0) (xs : List ℕ) (f : Forest) → AllNodes P f → AllNodes P (picked xs f)
all-picked P [] f h = tt
all-picked P (i ∷ xs) f h = all-join P (tree_nth i f) (picked xs f) (all-tree_nth P i f h) (all-picked P xs f h)

all-behind : (P : Label → ℕ → Type 0) (n : ℕ) (xs : List ℕ) (f : Forest) → AllNodes P f → AllNodes P (picked_behind n xs f)
all-behind P n xs f h = all-join P (first_trees n f) (picked xs (rest_trees n f)) (all-first_trees P n f h) (all-picked P xs (rest_trees n f) (all-rest_trees P n f h))

take-front : (n : ℕ) (a b : Forest) → n ≡ arity a → take n (listed (join a b)) ≡ listed a
take-front n a b e = ap (take n) (listed-join a b) ∙ ap (λ k. take k (listed a ++ listed b)) (e ∙ sym (length-listed a)) ∙ take-append_seam (listed a) (listed b)

drop-front : (n : ℕ) (a b : Forest) → n ≡ arity a → drop n (listed (join a b)) ≡ listed b
drop-front n a b e = ap (drop n) (listed-join a b) ∙ ap (λ k. drop k (listed a ++ listed b)) (e ∙ sym (length-listed a)) ∙ drop-append_seam (listed a) (listed b)

-- the trees at places that are in the order of their keys
pub sorted_places : (n m : ℕ) (key : Tree → Tree) (ys : List ℕ) (f : Forest) → n + m ≡ arity f → IsPermutation (range_with_len 0 m) ys
    → IsSorted (place_cmp (λ j. key (nth (n + j) (plains f)))) ys
    → IsSorting n key (plains f) (plains (picked_behind n ys f)) × KeepsTies n key (plains f) (plains (picked_behind n ys f))
sorted_places n m key ys f all moved sorted =
    let a = first_trees n f in
    let r = rest_trees n f in
    let count : n ≡ arity a = sym (arity-first_trees n f (omega arith)) in
    let many : m ≡ arity r = omega (arith, arity-rest_trees n f) in
    let g : ℕ → Tree = λ i. nth i (plains r) in
    let below : All (λ j. j < m) ys = inside_range m ys moved in
    let placed = places_same (λ j. key (nth (n + j) (plains f))) (λ j. key (g j)) ys m sorted below (λ j lt. ap key (nth-rest n j f)) in
    let whole : listed f ≡ listed (join a r) = ap listed (sym (first-rest n f)) in
    let old : drop n (listed f) ≡ map g (range_with_len 0 m) =
    ap (drop n) whole ∙ drop-front n a r count ∙ ap listed (sym (picked-range m r many)) ∙ listed-picked (range_with_len 0 m) r (subst (λ k. All (λ i. i < k) (range_with_len 0 m)) many (range_inside m)) in
    let new : drop n (listed (picked_behind n ys f)) ≡ map g ys = drop-front n a (picked ys r) count ∙ listed-picked ys r (subst (λ k. All (λ i. i < k) ys) many below) in (
      record {
        front = take-front n a (picked ys r) count ∙ sym (ap (take n) whole ∙ take-front n a r count);
        moved = subst (λ xs. IsPermutation xs (drop n (listed (picked_behind n ys f)))) (sym old) (subst (IsPermutation (map g (range_with_len 0 m))) (sym new) (IsPermutation-map g (range_with_len 0 m) ys moved));
        rising = subst (IsSortedByKey key tree_cmp) (sym new) (sorted_map g key ys (trees_rise (λ j. key (g j)) ys placed));
      },
      subst (λ xs. IsStableByKey key tree_cmp xs (drop n (listed (picked_behind n ys f)))) (sym old)
          (subst (IsStableByKey key tree_cmp (map g (range_with_len 0 m))) (sym new) (trees_stable g key m ys moved placed)),
    )

-- and so of a root's children
pub sorted_children : (i n m : ℕ) (key : Tree → Tree) (ys : List ℕ) (f g : Forest) → AllOnce (kids (root_tree i f)) → AllExpressions (kids (root_tree i f))
    → n + m ≡ arity (kids (root_tree i f)) → IsPermutation (range_with_len 0 m) ys
    → IsSorted (place_cmp (λ j. key (nth (n + j) (plains (kids (root_tree i f)))))) ys → g ≡ put i (picked_behind n ys (kids (root_tree i f))) f → SortsChildren i n key f g
sorted_children i n m key ys f g once whole all moved sorted e =
    let places = sorted_places n m key ys (kids (root_tree i f)) all moved sorted in
    record {
      children = picked_behind n ys (kids (root_tree i f));
      whole = e;
      once = all-behind IsOnce n ys (kids (root_tree i f)) once;
      expressions = all-behind IsWhole n ys (kids (root_tree i f)) whole;
      sorted = places.0;
      stable = places.1;
    }

-- the trees of listed keys
pub ranked_is : (keys : List Key) (f : Forest) (j : ℕ) (t : Tree) → j < length keys → key_tree (get_or keys j (record { id = 0; behind = 0 })) f ≡ t → ranked_tree keys f j ≡ t
ranked_is keys f j t h e = let same : min j (length keys - 1) ≡ j = omega arith in ap (λ k. key_tree (get_or keys k (record { id = 0; behind = 0 })) f) same ∙ e

-- a child's plain tree
pub child_plain : (i n id : ℕ) (f : Forest) → tree_at id f ≡ tree_nth n (kids_of i f) → plain (tree_at id f) ≡ nth n (plains (kids_of i f))
child_plain i n id f e = ap plain e ∙ plain-tree_nth n (kids_of i f)

-- a root's children, by its handle
pub handle_kids : (i h : ℕ) (s : State) → Stands s → has_root i (forest s) ≡ true → h ≡ i → kids_of h (forest s) ≡ kids (root_tree i (forest s))
handle_kids i h s st root e = ap (λ k. kids_of k (forest s)) e ∙ kids_of_root i st root
