-- The Numbers among trees, and the others.
use Rattle.like_children.proofs.Shared.{ℕ, zero, suc, ◌<◌, ◌≡◌, Bool, true, false, if◌then◌else◌, refl, sym, ap, ◌∙◌, arith, and_from, is_number, are_numbers, NoneIs, Permuted, permuted_none}
use Rattle.like_children.proofs.Shared.{permuted_more, permuted_trans, Permuted-sym, Permuted-to_front, Tree, Trees, none, more, append, count, removed, nth, numbers_in, others_in, IsNextNumber}
pub use Rattle.calc_terms.proofs.SmallLaws.{append_assoc as trees_assoc, count_append, append_none}
pub use Rattle.std.proofs.lemmas.Bool.{and_parts as both_true}

-- ---- the first one

pub number_in : (t : Tree) (ts : Trees) → is_number t ≡ true → numbers_in (more t ts) ≡ more t (numbers_in ts)
number_in t ts h = ap (λ (b : Bool). if b then more t (numbers_in ts) else numbers_in ts) h

pub number_out : (t : Tree) (ts : Trees) → is_number t ≡ true → others_in (more t ts) ≡ others_in ts
number_out t ts h = ap (λ (b : Bool). if b then others_in ts else more t (others_in ts)) h

pub other_in : (t : Tree) (ts : Trees) → is_number t ≡ false → others_in (more t ts) ≡ more t (others_in ts)
other_in t ts h = ap (λ (b : Bool). if b then others_in ts else more t (others_in ts)) h

pub other_out : (t : Tree) (ts : Trees) → is_number t ≡ false → numbers_in (more t ts) ≡ numbers_in ts
other_out t ts h = ap (λ (b : Bool). if b then more t (numbers_in ts) else numbers_in ts) h

-- ---- the first Number from the left goes

pub others_removed : (n : ℕ) (ts : Trees) → n < count ts → is_number (nth n ts) ≡ true → others_in (removed n ts) ≡ others_in ts
others_removed n none l h = absurd (omega arith)
others_removed zero (more t ts) l h = sym (number_out t ts h)
others_removed (suc n) (more t ts) l h = by (is_number t) (others_removed n ts (omega arith) h)
  where
    by : (k : Bool) → others_in (removed n ts) ≡ others_in ts
        → (if k then others_in (removed n ts) else more t (others_in (removed n ts))) ≡ (if k then others_in ts else more t (others_in ts))
    by true e = e
    by false e = ap (more t) e

pub numbers_removed : (n : ℕ) (ts : Trees) → IsNextNumber 0 n ts → numbers_in ts ≡ more (nth n ts) (numbers_in (removed n ts))
numbers_removed n none h = absurd (let l = h.within in omega (arith, l))
numbers_removed zero (more t ts) h = number_in t ts h.number
numbers_removed (suc n) (more t ts) h =
    let e = h.before 0 (omega arith) (omega arith) in
    let l = h.within in
    other_out t ts e
    ∙ numbers_removed n ts (record { behind = omega arith; within = omega (arith, l); number = h.number; before = λ k f m. h.before (suc k) (omega arith) (omega arith) })
    ∙ ap (more (nth n ts)) (sym (other_out t (removed n ts) e))

-- ---- there is none

pub no_numbers_others : (ts : Trees) → NoneIs is_number ts → others_in ts ≡ ts
no_numbers_others none h = refl
no_numbers_others (more t ts) h = other_in t ts h.0 ∙ ap (more t) (no_numbers_others ts h.1)

pub no_numbers_none : (ts : Trees) → NoneIs is_number ts → numbers_in ts ≡ none
no_numbers_none none h = refl
no_numbers_none (more t ts) h = other_out t ts h.0 ∙ no_numbers_none ts h.1

-- ---- both

pub numbers_first : (ts : Trees) → Permuted ts (append (numbers_in ts) (others_in ts))
numbers_first none = permuted_none
numbers_first (more t ts) = by (numbers_first ts) (is_number t)
  where
    by : Permuted ts (append (numbers_in ts) (others_in ts)) → (k : Bool)
        → Permuted (more t ts) (append (if k then more t (numbers_in ts) else numbers_in ts) (if k then others_in ts else more t (others_in ts)))
    by go true = permuted_more go
    by go false = permuted_trans (permuted_more go) (Permuted-sym (Permuted-to_front (numbers_in ts) t (others_in ts)))

pub append_one : (first : Trees) (x : Tree) (rest : Trees) → append first (more x rest) ≡ append (append first (more x none)) rest
append_one none x rest = refl
append_one (more t ts) x rest = ap (more t) (append_one ts x rest)

-- ---- they are Numbers, and the others are none

pub front_numbers : (ts us : Trees) → are_numbers (append ts us) ≡ true → are_numbers ts ≡ true
front_numbers none us n = refl
front_numbers (more t ts) us n = let b = both_true (is_number t) (are_numbers (append ts us)) n in and_from (is_number t) (are_numbers ts) b.0 (front_numbers ts us b.1)

pub end_numbers : (ts us : Trees) → are_numbers (append ts us) ≡ true → are_numbers us ≡ true
end_numbers none us n = n
end_numbers (more t ts) us n = end_numbers ts us (both_true (is_number t) (are_numbers (append ts us)) n).1

pub numbers_are : (ts : Trees) → are_numbers (numbers_in ts) ≡ true
numbers_are none = refl
numbers_are (more t ts) = by (is_number t) refl (numbers_are ts)
  where
    by : (b : Bool) → is_number t ≡ b → are_numbers (numbers_in ts) ≡ true → are_numbers (if b then more t (numbers_in ts) else numbers_in ts) ≡ true
    by true e go = and_from (is_number t) (are_numbers (numbers_in ts)) e go
    by false e go = go

pub none_number : (ts : Trees) → NoneIs is_number (others_in ts)
none_number none = tt
none_number (more t ts) = by (is_number t) refl (none_number ts)
  where
    by : (b : Bool) → is_number t ≡ b → NoneIs is_number (others_in ts) → NoneIs is_number (if b then others_in ts else more t (others_in ts))
    by true e h = h
    by false e h = (e, h)
