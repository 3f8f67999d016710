-- Trees among others by their places.
use Rattle.like_children.proofs.Shared.{ℕ, zero, suc, ◌<◌, ◌≤◌, ◌+◌, ◌≡◌, refl, ap, arith, Permuted, Permuted-refl, permuted_more, permuted_swap, permuted_trans, Tree, Trees, count, more, none}
use Rattle.like_children.proofs.Shared.{removed, inserted, nth, is_reduced, and_from, and_parts, true, are_reduced}

-- ---- one is taken out, or put in

pub nth_inserted : (n : ℕ) (t : Tree) (ts : Trees) → n ≤ count ts → nth n (inserted n (more t none) ts) ≡ t
nth_inserted zero t ts h = refl
nth_inserted (suc n) t none h = absurd (omega arith)
nth_inserted (suc n) t (more u ts) h = nth_inserted n t ts (omega arith)

pub nth_behind_inserted : (n : ℕ) (t : Tree) (ts : Trees) → n ≤ count ts → nth (suc n) (inserted n (more t none) ts) ≡ nth n ts
nth_behind_inserted zero t ts h = refl
nth_behind_inserted (suc n) t none h = absurd (omega arith)
nth_behind_inserted (suc n) t (more u ts) h = nth_behind_inserted n t ts (omega arith)

pub removed_inserted : (n : ℕ) (t : Tree) (ts : Trees) → n ≤ count ts → removed n (inserted n (more t none) ts) ≡ ts
removed_inserted zero t ts h = refl
removed_inserted (suc n) t none h = absurd (omega arith)
removed_inserted (suc n) t (more u ts) h = ap (more u) (removed_inserted n t ts (omega arith))

pub count_inserted : (n : ℕ) (t : Tree) (ts : Trees) → count (inserted n (more t none) ts) ≡ count ts + 1
count_inserted zero t ts = omega arith
count_inserted (suc n) t none = refl
count_inserted (suc n) t (more u ts) = omega (arith, count_inserted n t ts)

pub inserted_permuted : (n : ℕ) (t : Tree) (ts : Trees) → Permuted (inserted n (more t none) ts) (more t ts)
inserted_permuted zero t ts = Permuted-refl (more t ts)
inserted_permuted (suc n) t none = Permuted-refl (more t none)
inserted_permuted (suc n) t (more u ts) = permuted_trans (permuted_more (inserted_permuted n t ts)) permuted_swap

pub taken_permuted : (n : ℕ) (ts : Trees) → n < count ts → Permuted ts (more (nth n ts) (removed n ts))
taken_permuted n none h = absurd (omega arith)
taken_permuted zero (more t ts) h = Permuted-refl (more t ts)
taken_permuted (suc n) (more t ts) h = permuted_trans (permuted_more (taken_permuted n ts (omega arith))) permuted_swap

pub nth_behind_removed : (i j : ℕ) (ts : Trees) → i ≤ j → nth j (removed i ts) ≡ nth (suc j) ts
nth_behind_removed i j none h = refl
nth_behind_removed zero j (more t ts) h = refl
nth_behind_removed (suc i) zero (more t ts) h = absurd (omega arith)
nth_behind_removed (suc i) (suc j) (more t ts) h = nth_behind_removed i j ts (omega arith)

-- two neighbours go, the second one or the first one before the other
pub removed_two : (n : ℕ) (ts : Trees) → removed n (removed (suc n) ts) ≡ removed n (removed n ts)
removed_two n none = refl
removed_two zero (more t none) = refl
removed_two zero (more t (more u ts)) = refl
removed_two (suc n) (more t ts) = ap (more t) (removed_two n ts)

pub reduced_inserted : (n : ℕ) (t : Tree) (ts : Trees) → is_reduced t ≡ true → are_reduced ts ≡ true → are_reduced (inserted n (more t none) ts) ≡ true
reduced_inserted zero t ts h k = and_from _ _ h k
reduced_inserted (suc n) t none h k = and_from _ _ h refl
reduced_inserted (suc n) t (more u ts) h k = let (a, b) = and_parts (is_reduced u) (are_reduced ts) k in and_from _ _ a (reduced_inserted n t ts h b)
