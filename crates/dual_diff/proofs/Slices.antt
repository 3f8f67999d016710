-- Slices of lists of trees.
use Rattle.dual_diff.proofs.Shared.{◌≡◌, ℕ, zero, suc, ◌+◌, ◌-◌, ◌<◌, ◌≤◌, List, sym, ap, ◌∙◌, arith, Tree, Trees, children_of, none, more, append, count, size, sizes, nth}
use Rattle.dual_diff.proofs.{Shared.{derivative, with_derivative, behind, first}, Forms.{count_behind, first_all, first_next, nth_behind, sizes_append}}

pub slice_none : (from : ℕ) (ts : Trees) → none ≡ first (from - from) (behind from ts)
slice_none from ts = ap (λ (n : ℕ). first n (behind from ts)) (let e : 0 ≡ from - from = omega arith in e)

pub slice_more : (from at : ℕ) (ts : Trees) → from ≤ at → at < count ts → append (first (at - from) (behind from ts)) (more (nth at ts) none) ≡ first (at + 1 - from) (behind from ts)
slice_more from at ts h l =
    let n = at - from in
    ap (λ t. append (first n (behind from ts)) (more t none)) (sym (nth_behind from n ts ∙ ap (λ (k : ℕ). nth k ts) (let e : from + n ≡ at = omega arith in e)))
    ∙ sym (first_next n (behind from ts) (omega (arith, count_behind from ts (omega arith)))) ∙ ap (λ (k : ℕ). first k (behind from ts)) (let e : suc n ≡ at + 1 - from = omega arith in e)

sizes_first : (n m : ℕ) (ts : Trees) → n ≤ m → sizes (first n ts) ≤ sizes (first m ts)
sizes_first zero m ts h = omega arith
sizes_first (suc n) zero ts h = absurd (omega arith)
sizes_first (suc n) (suc m) none h = omega arith
sizes_first (suc n) (suc m) (more t ts) h = omega (arith, sizes_first n m ts (omega arith))

pub slice_room : (from at to : ℕ) (ts : Trees) → from ≤ at → at < to → to ≤ count ts → sizes (first (at - from) (behind from ts)) + size (nth at ts) ≤ sizes (first (to - from) (behind from ts))
slice_room from at to ts h l k =
    omega (arith, sizes_first (at + 1 - from) (to - from) (behind from ts) (omega arith), ap sizes (slice_more from at ts h (omega arith)), sizes_append (first (at - from) (behind from ts)) (more (nth at ts) none))

pub slice_first : (n : ℕ) (ts : Trees) → first (n - 0) (behind 0 ts) ≡ first n ts
slice_first n ts = ap (λ (k : ℕ). first k ts) (let e : n - 0 ≡ n = omega arith in e)

pub slice_last : (total from : ℕ) (ts : Trees) → total ≡ count ts → from ≤ count ts → first (total - from) (behind from ts) ≡ behind from ts
slice_last total from ts e h = first_all (total - from) (behind from ts) (omega (arith, e, count_behind from ts h))

-- the same of a tree that is another by name
pub rest_after : {t u : Tree} {total : ℕ} (n : ℕ) → total ≡ count (children_of u) → n < count (children_of u) → t ≡ u
    → first (total - (n + 1)) (behind (n + 1) (children_of t)) ≡ behind (n + 1) (children_of u)
rest_after {u = u} {total} n e h same =
    ap (λ v. first (total - (n + 1)) (behind (n + 1) (children_of v))) same ∙ slice_last total (n + 1) (children_of u) e (omega arith)

pub with_room : (x : List ℕ) (n : ℕ) (ts : Trees) → size (with_derivative x n ts) ≡ 8 + (sizes (first n ts) + (size (derivative x (nth n ts)) + sizes (behind (n + 1) ts)))
with_room x n ts = omega (arith, sizes_append (first n ts) (more (derivative x (nth n ts)) (behind (n + 1) ts)))
