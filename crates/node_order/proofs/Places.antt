-- Lists whose elements change places.
use Rattle.node_order.proofs.Shared.{◌≡◌, ℕ, zero, suc, ◌+◌, ◌<◌, ◌≤◌, List, [], ◌∷◌, ◌++◌, length, take, drop, get_or, refl, sym, ap, ◌∙◌, arith, drop-cons}
use Rattle.node_order.proofs.Shared.{⊎_elim, All, IsPermutation, set, set-append_seam, swap, range_with_len, cases_lt, take-append-drop, take-set-le, take_more_set, take_more, length-take-le}
use Rattle.node_order.proofs.Shared.{set-set, set-get_or, swap_is, All-nil, All-cons, All-permutation}

-- one more is in place
pub placed_same : (xs ys : List ℕ) (at : ℕ) → take at xs ≡ take at ys → at < length xs → at < length ys → get_or xs at 0 ≡ get_or ys at 0 → take (at + 1) xs ≡ take (at + 1) ys
placed_same xs ys at same l m here = take_more xs at 0 l ∙ (λ i. same i ++ (here i ∷ [])) ∙ sym (take_more ys at 0 m)

-- two elements, and the lists round them
pub record IsPair (i j : ℕ) (xs : List ℕ) : Type 0 where
  pub before : List ℕ
  pub between : List ℕ
  pub behind : List ℕ
  pub first : ℕ
  pub second : ℕ
  pub whole : xs ≡ before ++ (first ∷ (between ++ (second ∷ behind)))
  pub swapped : swap xs i j ≡ before ++ (second ∷ (between ++ (first ∷ behind)))
  pub at-first : i ≡ length before
  pub at-second : j ≡ length before + suc (length between)

pub pair : (i j : ℕ) (xs : List ℕ) → i < j → j < length xs → IsPair i j xs
pair zero (suc j) (x ∷ xs) lt h =
    let room : j < length xs = omega arith in
    let y = get_or xs j 0 in
    let split : xs ≡ take j xs ++ (y ∷ drop (suc j) xs) = sym (take-append-drop j xs) ∙ ap (λ (l : List ℕ). take j xs ++ l) (drop-cons xs j 0 room) in
    let long : j ≡ length (take j xs) = sym (length-take-le j xs (omega arith)) in
    let writes : set xs j x ≡ take j xs ++ (x ∷ drop (suc j) xs) = (λ i. set (split i) (long i) x) ∙ set-append_seam (take j xs) y (drop (suc j) xs) x in
    record {
      before = [];
      between = take j xs;
      behind = drop (suc j) xs;
      first = x;
      second = y;
      whole = ap (λ (l : List ℕ). x ∷ l) split;
      swapped = sym (swap_is (x ∷ xs) 0 (suc j) 0 (omega arith) h) ∙ ap (λ (l : List ℕ). y ∷ l) writes;
      at-first = refl;
      at-second = omega (arith, long);
    }
pair (suc i) (suc j) (x ∷ xs) lt h =
    let p = pair i j xs (omega arith) (omega arith) in
    record {
      before = x ∷ p.before;
      between = p.between;
      behind = p.behind;
      first = p.first;
      second = p.second;
      whole = ap (λ (l : List ℕ). x ∷ l) p.whole;
      swapped = sym (swap_is (x ∷ xs) (suc i) (suc j) 0 (omega arith) h) ∙ ap (λ (l : List ℕ). x ∷ l) (swap_is xs i j 0 (omega arith) (omega arith) ∙ p.swapped);
      at-first = ap suc p.at-first;
      at-second = omega (arith, p.at-second);
    }
pair i j xs lt h = absurd (omega arith)

pub swap_same : (xs : List ℕ) (i : ℕ) → i < length xs → swap xs i i ≡ xs
swap_same xs i h = sym (swap_is xs i i 0 h h) ∙ set-set xs i (get_or xs i 0) (get_or xs i 0) ∙ set-get_or xs i 0

pub placed_swap : (xs ys : List ℕ) (at j : ℕ) → take at xs ≡ take at ys → at < length ys → at ≤ j → j < length xs → get_or xs j 0 ≡ get_or ys at 0
    → take (at + 1) (swap xs at j) ≡ take (at + 1) ys
placed_swap xs ys at j same m le h here =
    ⊎_elim (λ lt. apart lt) (λ ge. let e : j ≡ at = omega arith in ap (λ n. take (at + 1) (swap xs at n)) e ∙ ap (take (at + 1)) (swap_same xs at (omega arith)) ∙ placed_same xs ys at same (omega arith) m (sym (ap (λ n. get_or xs n 0) e) ∙ here)) (cases_lt at j)
  where
    apart : at < j → take (at + 1) (swap xs at j) ≡ take (at + 1) ys
    apart lt =
        ap (take (at + 1)) (sym (swap_is xs at j 0 (omega arith) h))
        ∙ take-set-le (at + 1) (set xs at (get_or xs j 0)) j (get_or xs at 0) (omega arith)
        ∙ take_more_set xs at (get_or xs j 0) (omega arith)
        ∙ (λ i. same i ++ (here i ∷ []))
        ∙ sym (take_more ys at 0 m)

-- ---- all places, in any order

range_below : (n a m : ℕ) → a + n ≤ m → All (λ i. i < m) (range_with_len a n)
range_below zero a m h = All-nil (λ i. i < m)
range_below (suc n) a m h = All-cons (λ i. i < m) a (range_with_len (a + 1) n) (omega arith) (range_below n (a + 1) m (omega arith))

pub range_inside : (n : ℕ) → All (λ i. i < n) (range_with_len 0 n)
range_inside n = range_below n 0 n (omega arith)

pub inside_range : (n : ℕ) (ys : List ℕ) → IsPermutation (range_with_len 0 n) ys → All (λ i. i < n) ys
inside_range n ys moved = All-permutation (λ i. i < n) (range_with_len 0 n) ys moved (range_inside n)
