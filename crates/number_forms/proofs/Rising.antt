-- Terms, tested one by one.
use Rattle.number_forms.proofs.Shared.{◌≡◌, ℕ, zero, suc, ◌+◌, ◌<◌, ◌≤◌, Bool, true, false, ◌&&◌, not, nat_lt, refl, sym, ap, ◌∙◌, arith, add-one, and_parts, is_term, are_terms, is_below_all}
use Rattle.number_forms.proofs.Shared.{rises, terms_of, are_alike, Term, Trees, none, more, count, trees_from, nth}
use Rattle.calc_algebra.specs.Numbers.{term_of}

pub from_next : (ts : Trees) (n : ℕ) → n < count ts → trees_from n ts ≡ more (nth n ts) (trees_from (n + 1) ts)
from_next ts n l = by ts n l ∙ ap (λ (k : ℕ). more (nth n ts) (trees_from k ts)) (sym (add-one n))
  where
    by : (ts : Trees) (n : ℕ) → n < count ts → trees_from n ts ≡ more (nth n ts) (trees_from (suc n) ts)
    by none n l = absurd (omega arith)
    by (more t ts) zero l = refl
    by (more t ts) (suc n) l = by ts n (omega arith)

pub from_end : (ts : Trees) (n : ℕ) → count ts ≤ n → trees_from n ts ≡ none
from_end none zero l = refl
from_end none (suc n) l = refl
from_end (more t ts) zero l = absurd (omega arith)
from_end (more t ts) (suc n) l = from_end ts n (omega arith)

pub nth_term : (ts : Trees) (n : ℕ) → are_terms ts ≡ true → n < count ts → is_term (nth n ts) ≡ true
nth_term none n h l = absurd (omega arith)
nth_term (more t ts) zero h l = (and_parts (is_term t) (are_terms ts) h).0
nth_term (more t ts) (suc n) h l = nth_term ts n ((and_parts (is_term t) (are_terms ts) h).1) (omega arith)

-- ---- all are terms

pub terms_next : (ts : Trees) (n : ℕ) → n < count ts → is_term (nth n ts) ≡ true → are_terms (trees_from n ts) ≡ are_terms (trees_from (n + 1) ts)
terms_next ts n l h = ap are_terms (from_next ts n l) ∙ ap (λ (b : Bool). b && are_terms (trees_from (n + 1) ts)) h

pub no_term : (ts : Trees) (n : ℕ) → n < count ts → is_term (nth n ts) ≡ false → are_terms (trees_from n ts) ≡ false
no_term ts n l h = ap are_terms (from_next ts n l) ∙ ap (λ (b : Bool). b && are_terms (trees_from (n + 1) ts)) h

pub terms_end : (ts : Trees) (n : ℕ) → count ts ≤ n → are_terms (trees_from n ts) ≡ true
terms_end ts n l = ap are_terms (from_end ts n l)

-- ---- their radicands rise

pub rises_next : (ts : Trees) (n : ℕ) → n < count ts → is_below_all (term_of (nth n ts)) (terms_of (trees_from (n + 1) ts)) ≡ true
    → rises (terms_of (trees_from n ts)) ≡ rises (terms_of (trees_from (n + 1) ts))
rises_next ts n l h = grind (arith, from_next)

pub no_rise : (ts : Trees) (n : ℕ) → n < count ts → is_below_all (term_of (nth n ts)) (terms_of (trees_from (n + 1) ts)) ≡ false → rises (terms_of (trees_from n ts)) ≡ false
no_rise ts n l h = grind (arith, from_next)

pub rises_end : (ts : Trees) (n : ℕ) → count ts ≤ n → rises (terms_of (trees_from n ts)) ≡ true
rises_end ts n l = ap (λ (us : Trees). rises (terms_of us)) (from_end ts n l)

-- ---- one is below the rest

pub below_next : (t : Term) (ts : Trees) (n : ℕ) → n < count ts → (nat_lt t.radicand (term_of (nth n ts)).radicand && not (are_alike t.radicand (term_of (nth n ts)).radicand)) ≡ true
    → is_below_all t (terms_of (trees_from n ts)) ≡ is_below_all t (terms_of (trees_from (n + 1) ts))
below_next t ts n l h = ap (λ (us : Trees). is_below_all t (terms_of us)) (from_next ts n l) ∙ ap (λ (b : Bool). b && is_below_all t (terms_of (trees_from (n + 1) ts))) h

pub not_below : (t : Term) (ts : Trees) (n : ℕ) → n < count ts → (nat_lt t.radicand (term_of (nth n ts)).radicand && not (are_alike t.radicand (term_of (nth n ts)).radicand)) ≡ false
    → is_below_all t (terms_of (trees_from n ts)) ≡ false
not_below t ts n l h = ap (λ (us : Trees). is_below_all t (terms_of us)) (from_next ts n l) ∙ ap (λ (b : Bool). b && is_below_all t (terms_of (trees_from (n + 1) ts))) h

pub below_end : (t : Term) (ts : Trees) (n : ℕ) → count ts ≤ n → is_below_all t (terms_of (trees_from n ts)) ≡ true
below_end t ts n l = ap (λ (us : Trees). is_below_all t (terms_of us)) (from_end ts n l)
