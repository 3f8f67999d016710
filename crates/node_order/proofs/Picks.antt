-- Trees that are picked by places.
use Rattle.node_order.proofs.Shared.{◌≡◌, ℕ, zero, suc, ◌+◌, ◌<◌, ◌≤◌, List, [], ◌∷◌, ◌++◌, length, get_or, refl, sym, ap, ◌∙◌, subst, arith, All, swap, All-head, All-tail, All-nil, All-cons, picked}
use Rattle.node_order.proofs.Shared.{picked_behind, Forest, join, arity, first_trees, rest_trees, tree_nth, set_nth, swapped_nth, join_assoc, arity-join, arity-tree_nth, arity-first_trees}
use Rattle.node_order.proofs.{Shared.{first_trees-behind, tree_nth-behind, set_nth-behind, swapped_nth-same}, Listing.{nth-front}, Places.{pair, swap_same}}

pub picked-append : (xs ys : List ℕ) (f : Forest) → picked (xs ++ ys) f ≡ join (picked xs f) (picked ys f)
picked-append [] ys f = refl
picked-append (i ∷ xs) ys f = ap (join (tree_nth i f)) (picked-append xs ys f) ∙ sym (join_assoc (tree_nth i f) (picked xs f) (picked ys f))

-- each place is one of a tree
abbrev pub AreInside : Forest → List ℕ → Type 0
AreInside f xs = All (λ i. i < arity f) xs

pub arity-picked : (xs : List ℕ) (f : Forest) → AreInside f xs → arity (picked xs f) ≡ length xs
arity-picked [] f h = refl
arity-picked (i ∷ xs) f h =
    let one : arity (tree_nth i f) ≡ 1 = arity-tree_nth i f (All-head (λ i. i < arity f) i xs h) in
    let rest = arity-picked xs f (All-tail (λ i. i < arity f) i xs h) in
    omega (arith, arity-join (tree_nth i f) (picked xs f))

-- two trees between others change places
pub swapped_parts : (i j : ℕ) (a p y q z : Forest) → i ≡ arity a → arity p ≡ 1 → arity q ≡ 1 → j ≡ arity a + suc (arity y)
    → swapped_nth i j (join a (join p (join y (join q z)))) ≡ join a (join q (join y (join p z)))
swapped_parts i j a p y q z ai one other aj =
    let f = join a (join p (join y (join q z))) in
    let front = join a (join p y) in
    let regroup : (d : Forest) → join a (join p (join y d)) ≡ join front d = λ d. ap (join a) (sym (join_assoc p y d)) ∙ sym (join_assoc a (join p y) d) in
    let count : j ≡ arity front = omega (arith, arity-join a (join p y), arity-join p y) in
    let second : tree_nth j f ≡ q = ap (tree_nth j) (regroup (join q z)) ∙ tree_nth-behind j front q z count other in
    let first : tree_nth i f ≡ p = tree_nth-behind i a p (join y (join q z)) ai one in
    let middle : set_nth j p f ≡ join a (join p (join y (join p z))) = ap (set_nth j p) (regroup (join q z)) ∙ set_nth-behind j p front q z count other ∙ sym (regroup (join p z)) in
    (λ k. set_nth i (second k) (set_nth j (first k) f)) ∙ ap (set_nth i q) middle ∙ set_nth-behind i q a p (join y (join p z)) ai one

pick_two : (before between behind : List ℕ) (first second : ℕ) (a f : Forest) → join a (picked (before ++ (first ∷ (between ++ (second ∷ behind)))) f)
    ≡ join (join a (picked before f)) (join (tree_nth first f) (join (picked between f) (join (tree_nth second f) (picked behind f))))
pick_two before between behind first second a f = grind (arith, picked-append, join_assoc)

inside_part : (xs ys : List ℕ) (f : Forest) → AreInside f (xs ++ ys) → AreInside f xs × AreInside f ys
inside_part [] ys f h = (All-nil (λ i. i < arity f), h)
inside_part (x ∷ xs) ys f h =
    let r = inside_part xs ys f (All-tail (λ i. i < arity f) x (xs ++ ys) h) in
    (All-cons (λ i. i < arity f) x xs (All-head (λ i. i < arity f) x (xs ++ ys) h) r.0, r.1)

swapped_apart : (n i j : ℕ) (xs : List ℕ) (a f : Forest) → n ≡ arity a → AreInside f xs → i < j → j < length xs
    → swapped_nth (n + i) (n + j) (join a (picked xs f)) ≡ join a (picked (swap xs i j) f)
swapped_apart n i j xs a f e h lt room =
    let p = pair i j xs lt room in
    let inside = subst (AreInside f) p.whole h in
    let front = inside_part p.before (p.first ∷ (p.between ++ (p.second ∷ p.behind))) f inside in
    let tail = All-tail (λ i. i < arity f) p.first (p.between ++ (p.second ∷ p.behind)) front.1 in
    let mid = inside_part p.between (p.second ∷ p.behind) f tail in
    let one = arity-tree_nth p.first f (All-head (λ i. i < arity f) p.first (p.between ++ (p.second ∷ p.behind)) front.1) in
    let two = arity-tree_nth p.second f (All-head (λ i. i < arity f) p.second p.behind mid.1) in
    let count = arity-picked p.before f front.0 in
    let between = arity-picked p.between f mid.0 in
    ap (λ (x : List ℕ). swapped_nth (n + i) (n + j) (join a (picked x f))) p.whole
    ∙ ap (swapped_nth (n + i) (n + j)) (pick_two p.before p.between p.behind p.first p.second a f)
    ∙ swapped_parts (n + i) (n + j) (join a (picked p.before f)) (tree_nth p.first f) (picked p.between f) (tree_nth p.second f) (picked p.behind f)
    (omega (arith, arity-join a (picked p.before f), count, p.at-first)) one two (omega (arith, arity-join a (picked p.before f), count, between, p.at-second))
    ∙ sym (pick_two p.before p.between p.behind p.second p.first a f)
    ∙ ap (λ (x : List ℕ). join a (picked x f)) (sym p.swapped)

-- two of them change places
pub picked-swap : (n i j : ℕ) (xs : List ℕ) (f : Forest) → n ≤ arity f → AreInside (rest_trees n f) xs → i ≤ j → j < length xs
    → swapped_nth (n + i) (n + j) (picked_behind n xs f) ≡ picked_behind n (swap xs i j) f
picked-swap n i j xs f h k l m = grind (arith, swapped_apart, arity-first_trees, swapped_nth-same, swap_same, swap)

-- ---- one of the picked trees

nth-picked : (at : ℕ) (xs : List ℕ) (f : Forest) → AreInside f xs → at < length xs → tree_nth at (picked xs f) ≡ tree_nth (get_or xs at 0) f
nth-picked at [] f h lt = absurd (omega arith)
nth-picked zero (i ∷ xs) f h lt = first_trees-behind 1 (tree_nth i f) (picked xs f) (sym (arity-tree_nth i f (All-head (λ k. k < arity f) i xs h)))
nth-picked (suc at) (i ∷ xs) f h lt =
    let next : suc at ≡ 1 + at = omega arith in
    ap (λ m. tree_nth m (join (tree_nth i f) (picked xs f))) next
    ∙ nth-front 1 at (tree_nth i f) (picked xs f) (sym (arity-tree_nth i f (All-head (λ k. k < arity f) i xs h)))
    ∙ nth-picked at xs f (All-tail (λ k. k < arity f) i xs h) (omega arith)

pub nth-picked_behind : (n at : ℕ) (xs : List ℕ) (f : Forest) → n ≤ arity f → AreInside (rest_trees n f) xs → at < length xs
    → tree_nth (n + at) (picked_behind n xs f) ≡ tree_nth (get_or xs at 0) (rest_trees n f)
nth-picked_behind n at xs f le h lt = nth-front n at (first_trees n f) (picked xs (rest_trees n f)) (sym (arity-first_trees n f le)) ∙ nth-picked at xs (rest_trees n f) h lt
