-- Children by their places.
use Rattle.like_children.proofs.Shared.{ℕ, zero, suc, ◌+◌, ◌<◌, ◌≡◌, refl, ap, ◌∙◌, arith, Tree, Trees, none, more, count, sizes, size, removed, nth, inserted, children_of, IsWhole, Forest, arity}
use Rattle.like_children.proofs.Shared.{kids, tree_nth, without_nth, merged_nth, IsOnce, Represents, all-kids, all-tree_nth, all-without_nth, arity-tree_nth, represents_as, represents_with}
use Rattle.like_children.proofs.Shared.{plain-tree_nth, children_of-plain, whole_kids, alone, with_nth-without_nth, plains-without_nth}

pub represents_without : (n : ℕ) {k : Forest} {ts : Trees} → Represents k ts → Represents (without_nth n k) (removed n ts)
represents_without n h = grind (arith, all-without_nth, plains-without_nth)

pub represents_nth : (n : ℕ) {k : Forest} {ts : Trees} → n < arity k → Represents k ts → Represents (tree_nth n k) (more (nth n ts) none)
represents_nth n {k = k} l h = record {
  once = all-tree_nth IsOnce n k h.once;
  whole = all-tree_nth IsWhole n k h.whole;
  plain_trees = alone (tree_nth n k) (arity-tree_nth n k l) ∙ ap (λ (t : Tree). more t none) (plain-tree_nth n k ∙ ap (nth n) h.plain_trees);
}

-- the children of one tree
pub represents_kids : {t : Forest} {u : Tree} → Represents t (more u none) → Represents (kids t) (children_of u)
represents_kids h = grind (arith, all-kids, whole_kids, children_of-plain)

pub represents_merged : (n : ℕ) {k : Forest} {ts : Trees} → n < arity k → Represents k ts → Represents (merged_nth n k) (inserted n (children_of (nth n ts)) (removed n ts))
represents_merged n {k = k} l h =
    represents_as (represents_with n (represents_kids (represents_nth n l h)) (represents_without n h)) (with_nth-without_nth n (kids (tree_nth n k)) k l) refl

-- ---- one less

pub sizes_taken : (n : ℕ) (ts : Trees) → n < count ts → sizes ts ≡ size (nth n ts) + sizes (removed n ts)
sizes_taken n none l = absurd (omega arith)
sizes_taken zero (more t ts) l = refl
sizes_taken (suc n) (more t ts) l = omega (arith, sizes_taken n ts (omega arith))

pub count_removed : (n : ℕ) (ts : Trees) → n < count ts → count (removed n ts) + 1 ≡ count ts
count_removed n none h = absurd (omega arith)
count_removed zero (more t ts) h = omega arith
count_removed (suc n) (more t ts) h = omega (arith, count_removed n ts (omega arith))

pub each_removed : (P : Tree → Type 0) (n : ℕ) (ts : Trees) → ((k : ℕ) → k < count ts → P (nth k ts)) → (k : ℕ) → k < count (removed n ts) → P (nth k (removed n ts))
each_removed P n none h k l = absurd (omega arith)
each_removed P zero (more t ts) h k l = h (suc k) (omega arith)
each_removed P (suc n) (more t ts) h zero l = h 0 (omega arith)
each_removed P (suc n) (more t ts) h (suc k) l = each_removed P n ts (λ j m. h (suc j) (omega arith)) k (omega arith)
