-- Children that are opened one by one, from the last to the first.
use Rattle.coefficients.proofs.Shared.{ℕ, zero, suc, ◌≤◌, ◌<◌, ◌≡◌, refl, sym, ap, arith, Tree, Trees, none, more, append, count, opened_into, nth, inserted, children_of, removed}

-- those before a place, and the others opened
abbrev pub opened_from : (Tree → Trees) → ℕ → Trees → Trees
opened_from parts zero ts = opened_into parts ts
opened_from parts (suc n) none = none
opened_from parts (suc n) (more t ts) = more t (opened_from parts n ts)

pub opened_from_end : (parts : Tree → Trees) (n : ℕ) (ts : Trees) → count ts ≤ n → opened_from parts n ts ≡ ts
opened_from_end parts zero none h = refl
opened_from_end parts (suc n) none h = refl
opened_from_end parts zero (more t ts) h = absurd (omega arith)
opened_from_end parts (suc n) (more t ts) h = ap (more t) (opened_from_end parts n ts (omega arith))

pub nth_opened : (parts : Tree → Trees) (n : ℕ) (ts : Trees) → n < count ts → nth n (opened_from parts (suc n) ts) ≡ nth n ts
nth_opened parts n none h = absurd (omega arith)
nth_opened parts zero (more t ts) h = refl
nth_opened parts (suc n) (more t ts) h = nth_opened parts n ts (omega arith)

-- the child at the place before is opened where its parts are its children
pub opened_at : (parts : Tree → Trees) (n : ℕ) (ts : Trees) → n < count ts → children_of (nth n ts) ≡ parts (nth n ts)
    → inserted n (children_of (nth n ts)) (removed n (opened_from parts (suc n) ts)) ≡ opened_from parts n ts
opened_at parts n none h e = absurd (omega arith)
opened_at parts zero (more t ts) h e = ap (λ (us : Trees). append us (opened_into parts ts)) e
opened_at parts (suc n) (more t ts) h e = ap (more t) (opened_at parts n ts (omega arith) e)

-- and stays where it is its only part
pub opened_beside : (parts : Tree → Trees) (n : ℕ) (ts : Trees) → n < count ts → parts (nth n ts) ≡ more (nth n ts) none → opened_from parts (suc n) ts ≡ opened_from parts n ts
opened_beside parts n none h e = absurd (omega arith)
opened_beside parts zero (more t ts) h e = ap (λ (us : Trees). append us (opened_into parts ts)) (sym e)
opened_beside parts (suc n) (more t ts) h e = ap (more t) (opened_beside parts n ts (omega arith) e)
