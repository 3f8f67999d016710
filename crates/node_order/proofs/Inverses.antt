-- Two lists of places that undo each other.
use Rattle.node_order.proofs.Shared.{◌≡◌, ℕ, ◌<◌, ◌≤◌, List, length, take, get_or, refl, sym, ap, ◌∙◌, subst, arith, ⊎_elim, IsPermutation, swap, range_with_len, cases_lt, cases_eq, get_or-take}
use Rattle.node_order.proofs.{Shared.{swapped_from_swap, length-swap, length-range_with_len, get_or-range_with_len, All-get_or, IsPermutation-keeps, length_permutation}, Places.{inside_range}}

-- each place below n stands in xs at the place that ys has for it
abbrev pub Tells : ℕ → List ℕ → List ℕ → Type 0
Tells n xs ys = (k : ℕ) → k < n → (get_or ys k 0 < n) × (get_or xs (get_or ys k 0) 0 ≡ k)

pub record AreInverse (n : ℕ) (xs ys : List ℕ) : Type 0 where
  pub long : length xs ≡ n
  pub wide : length ys ≡ n
  pub forth : Tells n xs ys
  pub back : Tells n ys xs

-- the places as they are
pub inverse_start : (n : ℕ) → AreInverse n (range_with_len 0 n) (range_with_len 0 n)
inverse_start n = grind (arith, length-range_with_len, get_or-range_with_len)

tells_swap : (n a b x y : ℕ) (xs ys : List ℕ) → length xs ≡ n → length ys ≡ n → a < n → b < n → x < n → y < n → get_or xs a 0 ≡ x → get_or xs b 0 ≡ y
    → get_or ys x 0 ≡ a → get_or ys y 0 ≡ b → Tells n xs ys → Tells n (swap xs a b) (swap ys x y)
tells_swap n a b x y xs ys long wide la lb lx ly ax by xa yb t k lt =
    let old = swapped_from_swap xs (swap xs a b) a b 0 (omega arith) (omega arith) refl in
    let new = swapped_from_swap ys (swap ys x y) x y 0 (omega arith) (omega arith) refl in
    ⊎_elim (λ e.
    let moved : get_or (swap ys x y) k 0 ≡ b = ap (λ i. get_or (swap ys x y) i 0) e ∙ new.0 ∙ yb in
    (omega arith, ap (λ i. get_or (swap xs a b) i 0) moved ∙ old.1 ∙ ax ∙ sym e))
    (λ ne. ⊎_elim (λ e.
    let moved : get_or (swap ys x y) k 0 ≡ a = ap (λ i. get_or (swap ys x y) i 0) e ∙ new.1 ∙ xa in
    (omega arith, ap (λ i. get_or (swap xs a b) i 0) moved ∙ old.0 ∙ by ∙ sym e))
    (λ other.
    let kept : get_or (swap ys x y) k 0 ≡ get_or ys k 0 = new.2 k ne other in
    let told = t k lt in
    let far : get_or (swap xs a b) (get_or ys k 0) 0 ≡ get_or xs (get_or ys k 0) 0 =
    old.2 (get_or ys k 0) (λ e. ne (sym told.1 ∙ ap (λ i. get_or xs i 0) e ∙ ax)) (λ e. other (sym told.1 ∙ ap (λ i. get_or xs i 0) e ∙ by)) in
    (omega (arith, kept, told.0), ap (λ i. get_or (swap xs a b) i 0) kept ∙ far ∙ told.1)) (cases_eq k y)) (cases_eq k x)

-- two places change, and with them what undoes them
pub inverse_swap : (n a b : ℕ) (xs ys : List ℕ) → AreInverse n xs ys → a < n → b < n → AreInverse n (swap xs a b) (swap ys (get_or xs a 0) (get_or xs b 0))
inverse_swap n a b xs ys i la lb =
    let x = get_or xs a 0 in
    let y = get_or xs b 0 in
    let first = i.back a la in
    let second = i.back b lb in
    record {
      long = length-swap xs a b ∙ i.long;
      wide = length-swap ys x y ∙ i.wide;
      forth = tells_swap n a b x y xs ys i.long i.wide la lb first.0 second.0 refl refl first.1 second.1 i.forth;
      back = tells_swap n x y a b ys xs i.wide i.long first.0 second.0 la lb first.1 second.1 refl refl i.back;
    }

-- a list of places that another undoes
record IsUndone (n : ℕ) (xs : List ℕ) : Type 0 where
  other : List ℕ
  inverse : AreInverse n xs other

undone : (n : ℕ) (xs : List ℕ) → IsPermutation (range_with_len 0 n) xs → IsUndone n xs
undone n xs moved =
    IsPermutation-keeps (range_with_len 0 n) (IsUndone n) (record { other = range_with_len 0 n; inverse = inverse_start n })
    (λ l i j li lj u. record {
      other = swap u.other (get_or l i 0) (get_or l j 0);
      inverse = inverse_swap n i j l u.other u.inverse (subst (λ m. i < m) u.inverse.long li) (subst (λ m. j < m) u.inverse.long lj);
    }) xs moved

-- no place stands in such a list twice
pub places_once : (n i j : ℕ) (xs : List ℕ) → IsPermutation (range_with_len 0 n) xs → i < n → j < n → get_or xs i 0 ≡ get_or xs j 0 → i ≡ j
places_once n i j xs moved li lj e =
    let u = undone n xs moved in
    sym (u.inverse.back i li).1 ∙ ap (λ k. get_or u.other k 0) e ∙ (u.inverse.back j lj).1

-- where that stands which is wanted at a place: behind what is in place already
pub record IsSought (n at place : ℕ) (xs order : List ℕ) : Type 0 where
  pub low : at ≤ place
  pub inside : place < n
  pub found : get_or xs place 0 ≡ get_or order at 0

pub sought : (n at : ℕ) (xs ys order : List ℕ) → IsPermutation (range_with_len 0 n) order → AreInverse n xs ys → take at xs ≡ take at order → at < n
    → (get_or order at 0 < n) × IsSought n at (get_or ys (get_or order at 0) 0) xs order
sought n at xs ys order moved i same lt =
    let wanted = get_or order at 0 in
    let place = get_or ys wanted 0 in
    let long : length order ≡ n = length_permutation (range_with_len 0 n) order moved ∙ length-range_with_len 0 n in
    let inside = All-get_or (λ k. k < n) order at 0 (omega arith) (inside_range n order moved) in
    let told = i.forth wanted inside in (
      inside,
      record {
        low =
            ⊎_elim (λ less.
            let there : get_or order place 0 ≡ wanted = sym (get_or-take at order place 0 less) ∙ sym (ap (λ (l : List ℕ). get_or l place 0) same) ∙ get_or-take at xs place 0 less ∙ told.1 in
            let one : place ≡ at = places_once n place at order moved told.0 lt there in
            absurd (omega arith)) (λ ge. ge) (cases_lt place at);
        inside = told.0;
        found = told.1;
      },
    )
