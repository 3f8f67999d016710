-- Undef among the children of a node.
use Rattle.tree_handles.proofs.Shared.{ℕ, zero, suc, ◌<◌, ◌≤◌, ◌≡◌, Bool, true, false, refl, ap, ◌∙◌, arith, Tree, undef, Trees, none, more, count, is_undef, IsPartOf, itself, first, later, has_undef}
use Rattle.tree_handles.proofs.Shared.{nth, ◌||◌}

pub undef_inside : (ts : Trees) → has_undef ts ≡ true → IsPartOf undef ts
undef_inside none h = cc
undef_inside (more t ts) h = by (undef_inside ts) t h
  where
    by : (has_undef ts ≡ true → IsPartOf undef ts) → (u : Tree) → (is_undef u || has_undef ts) ≡ true → IsPartOf undef (more u ts)
    by go undef h = first itself
    by go u h = later (go h)

-- ---- those from a place on

abbrev pub behind : ℕ → Trees → Trees
behind zero ts = ts
behind (suc n) none = none
behind (suc n) (more t ts) = behind n ts

pub behind_at : (n : ℕ) (ts : Trees) → n < count ts → behind n ts ≡ more (nth n ts) (behind (suc n) ts)
behind_at n none h = absurd (omega arith)
behind_at zero (more t ts) h = refl
behind_at (suc n) (more t ts) h = behind_at n ts (omega arith)

pub behind_all : (n : ℕ) (ts : Trees) → count ts ≤ n → behind n ts ≡ none
behind_all zero none h = refl
behind_all (suc n) none h = refl
behind_all zero (more t ts) h = absurd (omega arith)
behind_all (suc n) (more t ts) h = behind_all n ts (omega arith)

-- ---- Undef from a place on

undef_at : (n : ℕ) (ts : Trees) → n < count ts → has_undef (behind n ts) ≡ (is_undef (nth n ts) || has_undef (behind (suc n) ts))
undef_at n ts h = ap has_undef (behind_at n ts h)

pub undef_here : (n : ℕ) (ts : Trees) → n < count ts → is_undef (nth n ts) ≡ true → has_undef (behind n ts) ≡ true
undef_here n ts h e = undef_at n ts h ∙ ap (λ (k : Bool). k || has_undef (behind (suc n) ts)) e

pub undef_later : (n : ℕ) (ts : Trees) → n < count ts → is_undef (nth n ts) ≡ false → has_undef (behind n ts) ≡ has_undef (behind (suc n) ts)
undef_later n ts h e = undef_at n ts h ∙ ap (λ (k : Bool). k || has_undef (behind (suc n) ts)) e

pub undef_end : (n : ℕ) (ts : Trees) → count ts ≤ n → has_undef (behind n ts) ≡ false
undef_end n ts h = ap has_undef (behind_all n ts h)
