-- Places in the order of their trees, and of one tree in their own order: trees with one key keep their order.
use Rattle.node_order.proofs.Shared.{◌≡◌, ℕ, zero, suc, ◌+◌, ◌≤◌, ◌<◌, List, [], ◌∷◌, length, get_or, map, Bool, true, false, not, ◌&&◌, cond, eqb, sum_by}
use Rattle.node_order.proofs.Shared.{true≢false, eqb-true, eq-eqb, refl, sym, ap, ◌∙◌, arith, All, IsPermutation, Ordering, Equal, IsTotalOrder, nat_cmp_total, on_total, then_total, filter}
use Rattle.node_order.proofs.Shared.{range_with_len, IsSorted, IsSortedByKey, IsStableByKey, is_lt, nat_cmp, ordering_reverse, ordering_then, ranks_by, sorted_far, sum_by-IsPermutation, tree_cmp}
use Rattle.node_order.proofs.Shared.{Tree, place_cmp, sum_by-cons, tree_cmp_total, tree_cmp_equal, tree_cmp_refl}

pub place_total : (tree : ℕ → Tree) → IsTotalOrder (place_cmp tree)
place_total tree = then_total (on_total tree tree_cmp_total) nat_cmp_total

-- ---- lists of numbers that do not fall, with the same numbers

-- how often a number stands in a list
abbrev times : ℕ → List ℕ → ℕ
times z [] = 0
times z (x ∷ xs) = cond (eqb z x) 1 0 + times z xs

abbrev AllFrom : ℕ → List ℕ → Type 0
AllFrom x [] = Unit {0}
AllFrom x (y ∷ ys) = (x ≤ y) × AllFrom x ys

abbrev AreUp : List ℕ → Type 0
AreUp [] = Unit {0}
AreUp (x ∷ xs) = AllFrom x xs × AreUp xs

-- the same as a sum
times-sum : (z : ℕ) (xs : List ℕ) → times z xs ≡ sum_by (λ x. cond (eqb z x) 1 0) xs
times-sum z [] = refl
times-sum z (x ∷ xs) = omega (arith, times-sum z xs, sum_by-cons (λ y. cond (eqb z y) 1 0) x xs)

times-permutation : (z : ℕ) (xs ys : List ℕ) → IsPermutation xs ys → times z ys ≡ times z xs
times-permutation z xs ys p = times-sum z ys ∙ sum_by-IsPermutation (λ x. cond (eqb z x) 1 0) xs ys p ∙ sym (times-sum z xs)

times-filter : (p : ℕ → Bool) (z : ℕ) (xs : List ℕ) → times z (filter p xs) ≡ cond (p z) (times z xs) 0
times-filter p z [] = none (p z)
  where
    none : (k : Bool) → times z [] ≡ cond k (times z []) 0
    none true = refl
    none false = refl
times-filter p z (x ∷ xs) = by (times-filter p z xs) (p x) refl (eqb z x) refl (p z) refl
  where
    by : times z (filter p xs) ≡ cond (p z) (times z xs) 0 → (k : Bool) → p x ≡ k → (e : Bool) → eqb z x ≡ e → (l : Bool) → p z ≡ l
        → times z (cond k (x ∷ filter p xs) (filter p xs)) ≡ cond l (cond e 1 0 + times z xs) 0
    by r true px true e true pz = rw (e, r, pz) refl
    by r true px true e false pz = absurd (true≢false (sym px ∙ ap p (sym (eqb-true z x e)) ∙ pz))
    by r true px false e true pz = rw (e, r, pz) refl
    by r true px false e false pz = rw (e, r, pz) refl
    by r false px true e true pz = absurd (true≢false (sym pz ∙ ap p (eqb-true z x e) ∙ px))
    by r false px true e false pz = rw (r, pz) refl
    by r false px false e true pz = rw (r, pz) (omega arith)
    by r false px false e false pz = rw (r, pz) refl

from_low : (y x : ℕ) (ys : List ℕ) → AllFrom y ys → 1 ≤ times x ys → y ≤ x
from_low y x [] h l = absurd (omega arith)
from_low y x (z ∷ ys) h l = by (from_low y x ys h.1) (eqb x z) refl l
  where
    by : (1 ≤ times x ys → y ≤ x) → (k : Bool) → eqb x z ≡ k → 1 ≤ cond k 1 0 + times x ys → y ≤ x
    by go true e m = omega (arith, h.0, eqb-true x z e)
    by go false e m = go (omega arith)

itself_once : (x : ℕ) (xs : List ℕ) → 1 ≤ times x (x ∷ xs)
itself_once x xs = rw (eq-eqb x x refl) (omega arith)

first_low : (x y : ℕ) (ys : List ℕ) → AllFrom y ys → 1 ≤ times x (y ∷ ys) → y ≤ x
first_low x y ys h l = from_low y x (y ∷ ys) (omega arith, h) l

one_list : (xs ys : List ℕ) → AreUp xs → AreUp ys → ((z : ℕ) → times z xs ≡ times z ys) → xs ≡ ys
one_list [] [] h k same = refl
one_list [] (y ∷ ys) h k same = absurd (let l = itself_once y ys in omega (arith, same y, l))
one_list (x ∷ xs) [] h k same = absurd (let l = itself_once x xs in omega (arith, same x, l))
one_list (x ∷ xs) (y ∷ ys) h k same =
    let low : y ≤ x = first_low x y ys k.0 (omega (arith, itself_once x xs, same x)) in
    let high : x ≤ y = first_low y x xs h.0 (omega (arith, itself_once y ys, same y)) in
    let e : x ≡ y = omega arith in
    let rest = one_list xs ys h.1 k.1 (λ z. omega (arith, same z, ap (λ (n : ℕ). times z (n ∷ xs)) e)) in
    ap (λ n. n ∷ xs) e ∙ ap (λ (l : List ℕ). y ∷ l) rest

-- ---- what is left of them by a test

from_filter : (p : ℕ → Bool) (x : ℕ) (xs : List ℕ) → AllFrom x xs → AllFrom x (filter p xs)
from_filter p x [] h = tt
from_filter p x (y ∷ ys) h = by (from_filter p x ys h.1) (p y)
  where
    by : AllFrom x (filter p ys) → (k : Bool) → AllFrom x (cond k (y ∷ filter p ys) (filter p ys))
    by r true = (h.0, r)
    by r false = r

up_filter : (p : ℕ → Bool) (xs : List ℕ) → AreUp xs → AreUp (filter p xs)
up_filter p [] h = tt
up_filter p (x ∷ xs) h = by (up_filter p xs h.1) (p x)
  where
    by : AreUp (filter p xs) → (k : Bool) → AreUp (cond k (x ∷ filter p xs) (filter p xs))
    by r true = (from_filter p x xs h.0, r)
    by r false = r

from_range : (a b n : ℕ) → a ≤ b → AllFrom a (range_with_len b n)
from_range a b zero h = tt
from_range a b (suc n) h = (h, from_range a (b + 1) n (omega arith))

up_range : (a n : ℕ) → AreUp (range_with_len a n)
up_range a zero = tt
up_range a (suc n) = (from_range a (a + 1) n (omega arith), up_range (a + 1) n)

-- ---- places of one tree

abbrev alike : (ℕ → Tree) → Tree → ℕ → Bool
alike tree t a = not (is_lt (tree_cmp t (tree a))) && not (is_lt (tree_cmp (tree a) t))

neither : (o p : Ordering) → p ≡ ordering_reverse o → (not (is_lt o) && not (is_lt p)) ≡ true → o ≡ Equal
neither o p e h = grind arith

alike_is : (tree : ℕ → Tree) (t : Tree) (a : ℕ) → alike tree t a ≡ true → t ≡ tree a
alike_is tree t a h = tree_cmp_equal t (tree a) (neither (tree_cmp t (tree a)) (tree_cmp (tree a) t) (tree_cmp_total.antisymm (tree a) t) h)

not_less : (m n : ℕ) → is_lt (nat_cmp m n) ≡ false → n ≤ m
not_less m n h = grind arith

-- of two of them the later one is the greater
tied_up : (tree : ℕ → Tree) (t : Tree) (a b : ℕ) → alike tree t a ≡ true → alike tree t b ≡ true → is_lt (place_cmp tree b a) ≡ false → a ≤ b
tied_up tree t a b h k l = grind (arith, alike_is, tree_cmp_refl, not_less)

from_kept : (tree : ℕ → Tree) (t : Tree) (y : ℕ) (ys : List ℕ) → alike tree t y ≡ true → ((j d : ℕ) → j < length ys → is_lt (place_cmp tree (get_or ys j d) y) ≡ false)
    → AllFrom y (filter (alike tree t) ys)
from_kept tree t y [] h up = tt
from_kept tree t y (z ∷ zs) h up = by (from_kept tree t y zs h (λ j d l. up (suc j) d (omega arith))) (alike tree t z) refl
  where
    by : AllFrom y (filter (alike tree t) zs) → (k : Bool) → alike tree t z ≡ k → AllFrom y (cond k (z ∷ filter (alike tree t) zs) (filter (alike tree t) zs))
    by r true e = (tied_up tree t y z h e (up 0 z (omega arith)), r)
    by r false e = r

up_kept : (tree : ℕ → Tree) (t : Tree) (ys : List ℕ) → ((i j d : ℕ) → i ≤ j → j < length ys → is_lt (place_cmp tree (get_or ys j d) (get_or ys i d)) ≡ false)
    → AreUp (filter (alike tree t) ys)
up_kept tree t [] up = tt
up_kept tree t (y ∷ ys) up = by (up_kept tree t ys (λ i j d l m. up (suc i) (suc j) d (omega arith) (omega arith))) (alike tree t y) refl
  where
    by : AreUp (filter (alike tree t) ys) → (k : Bool) → alike tree t y ≡ k → AreUp (cond k (y ∷ filter (alike tree t) ys) (filter (alike tree t) ys))
    by r true e = (from_kept tree t y ys e (λ j d l. up 0 (suc j) d (omega arith) (omega arith)), r)
    by r false e = r

-- sorted places of one tree stand as they stood
pub places_stable : (tree : ℕ → Tree) (m : ℕ) (ys : List ℕ) → IsPermutation (range_with_len 0 m) ys → IsSorted (place_cmp tree) ys → (t : Tree)
    → filter (alike tree t) ys ≡ filter (alike tree t) (range_with_len 0 m)
places_stable tree m ys moved sorted t =
    let p = alike tree t in
    let xs = range_with_len 0 m in
    one_list (filter p ys) (filter p xs)
    (up_kept tree t ys (λ i j d l k. sorted_far (λ a b. is_lt (place_cmp tree a b)) (ranks_by (place_total tree) (λ x. x)) ys sorted i j d l k)) (up_filter p xs (up_range 0 m))
    (λ z. times-filter p z ys ∙ ap (λ n. cond (p z) n 0) (times-permutation z xs ys moved) ∙ sym (times-filter p z xs))

-- ---- the trees at the places

filter-map : (p : Tree → Bool) (g : ℕ → Tree) (xs : List ℕ) → filter p (map g xs) ≡ map g (filter (λ a. p (g a)) xs)
filter-map p g [] = refl
filter-map p g (x ∷ xs) = by (filter-map p g xs) (p (g x))
  where
    by : filter p (map g xs) ≡ map g (filter (λ a. p (g a)) xs) → (k : Bool)
        → cond k (g x ∷ filter p (map g xs)) (filter p (map g xs)) ≡ map g (cond k (x ∷ filter (λ a. p (g a)) xs) (filter (λ a. p (g a)) xs))
    by r true = ap (λ (l : List Tree). g x ∷ l) r
    by r false = r

pub trees_stable : (g : ℕ → Tree) (key : Tree → Tree) (m : ℕ) (ys : List ℕ) → IsPermutation (range_with_len 0 m) ys → IsSorted (place_cmp (λ i. key (g i))) ys
    → IsStableByKey key tree_cmp (map g (range_with_len 0 m)) (map g ys)
trees_stable g key m ys moved sorted x =
    let p : Tree → Bool = λ y. not (is_lt (tree_cmp (key x) (key y))) && not (is_lt (tree_cmp (key y) (key x))) in
    filter-map p g ys ∙ ap (map g) (places_stable (λ i. key (g i)) m ys moved sorted (key x)) ∙ sym (filter-map p g (range_with_len 0 m))

-- ---- by their trees alone

not_below : (o p : Ordering) → is_lt (ordering_then o p) ≡ false → is_lt o ≡ false
not_below o p h = grind arith

pub trees_rise : (tree : ℕ → Tree) (ys : List ℕ) → IsSorted (place_cmp tree) ys → IsSortedByKey tree tree_cmp ys
trees_rise tree ys sorted k d low high = not_below _ _ (sorted k d low high)

-- places with the same trees are in the same order
pub places_same : (tree other : ℕ → Tree) (ys : List ℕ) (m : ℕ) → IsSorted (place_cmp tree) ys → All (λ j. j < m) ys → ((j : ℕ) → j < m → tree j ≡ other j)
    → IsSorted (place_cmp other) ys
places_same tree other ys m h k l = grind arith
