-- Of a reduced tree the shape tells whether it is a Number.
use Rattle.calc_terms.proofs.SmallLaws.{one_of as either}
use Rattle.number_forms.proofs.Shared.{◌≡◌, ◌≢◌, ℕ, zero, suc, ◌≤◌, ◌<◌, ◌⊎◌, inl, inr, Bool, true, false, not, ◌&&◌, if◌then◌else◌, length, refl, sym, ap, ◌∙◌, subst, arith, nat_le}
use Rattle.number_forms.proofs.Shared.{and_parts, and_from, le-leb, not-true, is_number, is_term, are_terms, rises, terms_of, is_reduced, has_form, sum_form, all_parts, all_parts_of, none_is}
use Rattle.number_forms.proofs.Shared.{number_terms, other_terms, Tree, add, Trees, none, more, count, has_two, is_add, root_kind, has_term_shape, nth, count_terms}
use Rattle.calc_terms.specs.declared.kind.Kind.TheVariants as kind

true_or_false : (b : Bool) → (b ≡ true) ⊎ (b ≡ false)
true_or_false b = grind arith

-- ---- a term's shape

shaped_number : (t : Tree) → all_parts has_form t ≡ true → has_term_shape t ≡ true → is_number t ≡ true
unfolding is_number
shaped_number t h s = grind arith

pub unshaped_term : (t : Tree) → has_term_shape t ≡ false → is_term t ≡ false
unshaped_term t h = grind arith

pub no_add : (t : Tree) → root_kind t ≢ kind.Add → is_add t ≡ false
no_add t h = grind arith

pub reduced_other : (t : Tree) → is_reduced t ≡ true → root_kind t ≢ kind.Add → has_term_shape t ≡ is_number t
unfolding is_reduced is_number
reduced_other t h k = grind arith

-- ---- a sum, by its last term

none_nth : (p : Tree → Bool) (ts : Trees) (n : ℕ) → none_is p ts ≡ true → n < count ts → p (nth n ts) ≡ false
none_nth p none n h l = absurd (omega arith)
none_nth p (more t ts) zero h l = not-true (p t) ((and_parts (not (p t)) (none_is p ts) h).0)
none_nth p (more t ts) (suc n) h l = none_nth p ts n ((and_parts (not (p t)) (none_is p ts) h).1) (omega arith)

parts_nth : (p : Tree → Bool) (ts : Trees) (n : ℕ) → all_parts_of p ts ≡ true → n < count ts → all_parts p (nth n ts) ≡ true
parts_nth p none n h l = absurd (omega arith)
parts_nth p (more t ts) zero h l = (and_parts (all_parts p t) (all_parts_of p ts) h).0
parts_nth p (more t ts) (suc n) h l = parts_nth p ts n ((and_parts (all_parts p t) (all_parts_of p ts) h).1) (omega arith)

no_terms : (ts : Trees) (n : ℕ) → n < count ts → is_term (nth n ts) ≡ false → are_terms ts ≡ false
no_terms none n l h = absurd (omega arith)
no_terms (more t ts) zero l h = ap (λ (b : Bool). b && are_terms ts) h
no_terms (more t ts) (suc n) l h = grind (arith, no_terms ts n)

-- all terms make its Number
pub record AreAllTerms (ts : Trees) : Type 0 where
  pub terms : are_terms ts ≡ true
  pub number : number_terms ts ≡ ts

all_terms : (ts : Trees) (n : ℕ) → suc n ≡ count ts → is_number (nth n ts) ≡ true → none_is is_number (other_terms ts) ≡ true → AreAllTerms ts
all_terms none n e h o = absurd (omega arith)
all_terms (more t none) n e h o = by (is_term t) refl o
  where
    at : n ≡ 0
    at = omega arith

    by : (b : Bool) → is_term t ≡ b → none_is is_number (if b then none else more t none) ≡ true → AreAllTerms (more t none)
    by true f o = record { terms = ap (λ (b : Bool). b && true) f; number = ap (λ (b : Bool). if b then more t none else none) f }
    by false f o = absurd (cc (none_nth is_number (more t none) n o (omega arith), h))
all_terms (more t (more u us)) zero e h o = absurd (omega arith)
all_terms (more t (more u us)) (suc n) e h o = by (λ o. all_terms (more u us) n (omega arith) h o) (is_term t) refl o
  where
    by : (none_is is_number (other_terms (more u us)) ≡ true → AreAllTerms (more u us)) → (b : Bool) → is_term t ≡ b
        → none_is is_number (if b then other_terms (more u us) else more t (more u us)) ≡ true → AreAllTerms (more t (more u us))
    by again true f o =
        let r = again o in
        record { terms = and_from (is_term t) (are_terms (more u us)) f r.terms; number = ap (λ (b : Bool). if b then more t (number_terms (more u us)) else none) f ∙ ap (more t) r.number }
    by again false f o = absurd (cc (none_nth is_number (more t (more u us)) (suc n) o (omega arith), h))

two_of : (ts : Trees) → has_two ts ≡ true → 2 ≤ count ts
two_of ts h = grind arith

number_two : (ts : Trees) → is_number (add ts) ≡ true → 2 ≤ count ts
unfolding is_number
number_two ts h = grind (arith, count_terms)

pub record SumParts (ts : Trees) : Type 0 where
  pub two : has_two ts ≡ true
  pub rising : rises (terms_of (number_terms ts)) ≡ true
  pub others : none_is is_number (other_terms ts) ≡ true

sum_parts : (ts : Trees) → sum_form ts ≡ true → SumParts ts
sum_parts ts h = grind (arith, and_parts)

sum_by_terms : (ts : Trees) → SumParts ts → AreAllTerms ts → is_number (add ts) ≡ true
unfolding is_number
sum_by_terms ts s a =
    let l : 2 ≤ length (terms_of ts) = subst (λ (n : ℕ). 2 ≤ n) (sym (count_terms ts)) (two_of ts s.two) in
    and_from (nat_le 2 (length (terms_of ts)) && are_terms ts) (rises (terms_of ts)) (and_from (nat_le 2 (length (terms_of ts))) (are_terms ts) (le-leb 2 (length (terms_of ts)) l) a.terms)
    (ap (λ (us : Trees). rises (terms_of us)) (sym a.number) ∙ s.rising)

not_by_terms : (ts : Trees) → are_terms ts ≡ false → is_number (add ts) ≡ false
unfolding is_number
not_by_terms ts h = grind arith

sum_has_form : (ts : Trees) → is_reduced (add ts) ≡ true → ((is_number (add ts) ≡ true) ⊎ (sum_form ts ≡ true)) × (all_parts_of has_form ts ≡ true)
unfolding is_reduced
sum_has_form ts h = grind (arith, and_parts, either)

pub reduced_two : (ts : Trees) → is_reduced (add ts) ≡ true → 2 ≤ count ts
reduced_two ts h = grind (arith, sum_has_form, number_two, two_of, sum_parts)

pub reduced_sum : (ts : Trees) (n : ℕ) → is_reduced (add ts) ≡ true → suc n ≡ count ts → has_term_shape (nth n ts) ≡ is_number (add ts)
reduced_sum ts n h e = by (sum_has_form ts h).0 (true_or_false (has_term_shape (nth n ts)))
  where
    parts : all_parts has_form (nth n ts) ≡ true
    parts = parts_nth has_form ts n (sum_has_form ts h).1 (omega arith)

    by : (is_number (add ts) ≡ true) ⊎ (sum_form ts ≡ true) → (has_term_shape (nth n ts) ≡ true) ⊎ (has_term_shape (nth n ts) ≡ false)
        → has_term_shape (nth n ts) ≡ is_number (add ts)
    by (inl f) (inl s) = s ∙ sym f
    by (inr f) (inl s) = let p = sum_parts ts f in s ∙ sym (sum_by_terms ts p (all_terms ts n e (shaped_number (nth n ts) parts s) p.others))
    by k (inr s) = s ∙ sym (not_by_terms ts (no_terms ts n (omega arith) (unshaped_term (nth n ts) s)))
