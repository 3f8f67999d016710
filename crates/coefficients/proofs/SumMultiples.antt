-- A rational times a reduced sum: a reduced sum of as many terms with the same parts, in the same order.
use Rattle.coefficients.proofs.Shared.{term_no_sum, true≢false, ◌≡◌, ◌≤◌, length, arith, ◌⊎◌, ◌∷◌, inl, inr, Bool, true, false, if◌then◌else◌, refl, sym, ap, ◌∙◌, subst, Fraction, is_number, is_term}
use Rattle.coefficients.proofs.Shared.{IsNumber, IsTerm, AreTerms, Rises, terms_of, part_of, number_terms, other_terms, NoneIs, RisesBy, IsSumForm, HasForm, surd_scale, Tree, num, add, mult, root}
use Rattle.coefficients.proofs.Shared.{Trees, none, more, HasTwo, AllPartsOf, is_add, term_words, number_test, number_words, mapped, rational_times_term, rational_times_sum, tree_cmp, term_test}
use Rattle.coefficients.proofs.{Forms.{term_parts, no_term}, NumberMultiples.{IsFactor, IsScaled, scaled, rises-scaled}, TermMultiples.{multiple}}
use Rattle.number_forms.proofs.Shaped.{term_number as number_of_term}

-- each is a term of the Number, or a term behind it
abbrev pub EachTerm : Trees → Type 0
EachTerm none = Unit {0}
EachTerm (more t ts) = (IsTerm t ⊎ (is_number t ≡ false)) × EachTerm ts

behind : (ts : Trees) → NoneIs is_number ts → EachTerm ts
behind none h = tt
behind (more t ts) h = (inr h.0, behind ts h.1)

pub each_term : (ts : Trees) → NoneIs is_number (other_terms ts) → EachTerm ts
each_term none h = tt
each_term (more t ts) h = by (is_term t) refl h (λ k. each_term ts k)
  where
    by : (b : Bool) → is_term t ≡ b → NoneIs is_number (if b then other_terms ts else more t ts) → (NoneIs is_number (other_terms ts) → EachTerm ts) → EachTerm (more t ts)
    by true e k go = (inl (term_words t e), go k)
    by false e k go = behind (more t ts) k

-- a term of a Number is no sum, and is multiplied as one
pub number_term : (q : Fraction) (t : Tree) → IsFactor q → IsTerm t → IsScaled q t (rational_times_term q t)
number_term q (num c) f h = scaled q (num c) f h
number_term q (root (num r)) f h = scaled q (root (num r)) f h
number_term q (mult (more (num c) (more (root (num r)) none))) f h = scaled q (mult (more (num c) (more (root (num r)) none))) f h
number_term q t f h = absurd h

pub terms_no_sum : (ts : Trees) → AreTerms ts → NoneIs is_add ts
terms_no_sum none h = tt
terms_no_sum (more t ts) h = (term_no_sum t h.0, terms_no_sum ts h.1)

all_of : (ts : Trees) → AreTerms ts → number_terms ts ≡ ts
all_of none h = refl
all_of (more t ts) h = rw (term_test t h.0) (ap (more t) (all_of ts h.1))

pub two_terms : (ts : Trees) → HasTwo ts → 2 ≤ length (terms_of ts)
two_terms ts h = grind arith

module _ (q : Fraction) (f : IsFactor q) where
  number_terms-mapped : (ts : Trees) → AllPartsOf HasForm ts → NoneIs is_add ts → EachTerm ts
      → terms_of (number_terms (mapped (rational_times_term q) ts)) ≡ surd_scale q (terms_of (number_terms ts))
  number_terms-mapped none h s k = refl
  number_terms-mapped (more t ts) h s k = first (number_terms-mapped ts h.1 s.1 k.1) k.0
    where
      first : terms_of (number_terms (mapped (rational_times_term q) ts)) ≡ surd_scale q (terms_of (number_terms ts)) → IsTerm t ⊎ (is_number t ≡ false)
          → terms_of (number_terms (more (rational_times_term q t) (mapped (rational_times_term q) ts))) ≡ surd_scale q (terms_of (number_terms (more t ts)))
      first tail (inl i) =
          let u = number_term q t f i in
          rw (term_test t i, term_test (rational_times_term q t) u.one) (λ j. u.term_is j ∷ tail j)
      first tail (inr n) = rw (no_term t n, no_term (rational_times_term q t) (multiple q f t h.0 n s.0).no_number) refl

  other_terms-mapped : (ts : Trees) → AllPartsOf HasForm ts → NoneIs is_add ts → EachTerm ts
      → other_terms (mapped (rational_times_term q) ts) ≡ mapped (rational_times_term q) (other_terms ts)
  other_terms-mapped none h s k = refl
  other_terms-mapped (more t ts) h s k = first (other_terms-mapped ts h.1 s.1 k.1) k.0
    where
      first : other_terms (mapped (rational_times_term q) ts) ≡ mapped (rational_times_term q) (other_terms ts) → IsTerm t ⊎ (is_number t ≡ false)
          → other_terms (more (rational_times_term q t) (mapped (rational_times_term q) ts)) ≡ mapped (rational_times_term q) (other_terms (more t ts))
      first tail (inl i) = rw (term_test t i, term_test (rational_times_term q t) (number_term q t f i).one) tail
      first tail (inr n) = rw (no_term t n, no_term (rational_times_term q t) (multiple q f t h.0 n s.0).no_number) refl

  -- ---- the terms behind the Number

  none_number : (ts : Trees) → AllPartsOf HasForm ts → NoneIs is_add ts → NoneIs is_number ts → NoneIs is_number (mapped (rational_times_term q) ts)
  none_number none h s n = tt
  none_number (more t ts) h s n = ((multiple q f t h.0 n.0 s.0).no_number, none_number ts h.1 s.1 n.1)

  parts_rise : (ts : Trees) → AllPartsOf HasForm ts → NoneIs is_add ts → NoneIs is_number ts → RisesBy part_of ts → RisesBy part_of (mapped (rational_times_term q) ts)
  parts_rise none h s n r = tt
  parts_rise (more t none) h s n r = tt
  parts_rise (more t (more u ts)) h s n r = (
    (λ i. tree_cmp ((multiple q f t h.0 n.0 s.0).part i) ((multiple q f u h.1.0 n.1.0 s.1.0).part i)) ∙ r.0,
    parts_rise (more u ts) h.1 s.1 n.1 r.1,
  )

  -- ---- all terms

  formed : (ts : Trees) → AllPartsOf HasForm ts → NoneIs is_add ts → EachTerm ts → AllPartsOf HasForm (mapped (rational_times_term q) ts)
  formed none h s k = tt
  formed (more t ts) h s (inl i, ks) = (term_parts (rational_times_term q t) (number_term q t f i).one, formed ts h.1 s.1 ks)
  formed (more t ts) h s (inr n, ks) = ((multiple q f t h.0 n s.0).formed, formed ts h.1 s.1 ks)

  no_sum : (ts : Trees) → AllPartsOf HasForm ts → NoneIs is_add ts → EachTerm ts → NoneIs is_add (mapped (rational_times_term q) ts)
  no_sum none h s k = tt
  no_sum (more t ts) h s (inl i, ks) = (term_no_sum (rational_times_term q t) (number_term q t f i).one, no_sum ts h.1 s.1 ks)
  no_sum (more t ts) h s (inr n, ks) = ((multiple q f t h.0 n s.0).no_sum, no_sum ts h.1 s.1 ks)

  two_mapped : (ts : Trees) → HasTwo ts → HasTwo (mapped (rational_times_term q) ts)
  two_mapped (more t (more u ts)) h = tt
  two_mapped ts h = absurd h

  -- ---- the terms behind are some of the terms

  some_formed : (ts : Trees) → AllPartsOf HasForm ts → AllPartsOf HasForm (other_terms ts)
  some_formed none h = tt
  some_formed (more t ts) h = by (is_term t) (some_formed ts h.1)
    where
      by : (b : Bool) → AllPartsOf HasForm (other_terms ts) → AllPartsOf HasForm (if b then other_terms ts else more t ts)
      by true go = go
      by false go = h

  some_no_sum : (ts : Trees) → NoneIs is_add ts → NoneIs is_add (other_terms ts)
  some_no_sum none h = tt
  some_no_sum (more t ts) h = by (is_term t) (some_no_sum ts h.1)
    where
      by : (b : Bool) → NoneIs is_add (other_terms ts) → NoneIs is_add (if b then other_terms ts else more t ts)
      by true go = go
      by false go = h

  pub sum_form_multiple : (ts : Trees) → IsSumForm ts → AllPartsOf HasForm ts → IsSumForm (mapped (rational_times_term q) ts)
  sum_form_multiple ts s h =
      let k = each_term ts s.no_number in
      let others = other_terms-mapped ts h s.no_sum k in
      record {
        two = two_mapped ts s.two;
        no_sum = no_sum ts h s.no_sum k;
        number = subst Rises (sym (number_terms-mapped ts h s.no_sum k)) (rises-scaled q (terms_of (number_terms ts)) s.number);
        no_number = subst (NoneIs is_number) (sym others) (none_number (other_terms ts) (some_formed ts h) (some_no_sum ts s.no_sum) s.no_number);
        rising = subst (RisesBy part_of) (sym others) (parts_rise (other_terms ts) (some_formed ts h) (some_no_sum ts s.no_sum) s.no_number s.rising);
      }

  pub parts_multiple : (ts : Trees) → IsSumForm ts → AllPartsOf HasForm ts → AllPartsOf HasForm (mapped (rational_times_term q) ts)
  parts_multiple ts s h = formed ts h s.no_sum (each_term ts s.no_number)

  -- ---- a sum that is no Number is none again

  all_terms : (ts : Trees) → AllPartsOf HasForm ts → NoneIs is_add ts → EachTerm ts → AreTerms (mapped (rational_times_term q) ts) → AreTerms ts
  all_terms none h s k a = tt
  all_terms (more t ts) h s (inl i, ks) a = (i, all_terms ts h.1 s.1 ks a.1)
  all_terms (more t ts) h s (inr n, ks) a =
      absurd (true≢false (sym (number_test (rational_times_term q t) (number_of_term (rational_times_term q t) a.0)) ∙ (multiple q f t h.0 n s.0).no_number))

  pub no_number_multiple : (ts : Trees) → IsSumForm ts → AllPartsOf HasForm ts → is_number (add ts) ≡ false → is_number (rational_times_sum q ts) ≡ false
  no_number_multiple ts s h n = by (is_number (rational_times_sum q ts)) refl
    where
      by : (b : Bool) → is_number (rational_times_sum q ts) ≡ b → is_number (rational_times_sum q ts) ≡ false
      by false e = e
      by true e =
          let a : AreTerms ts = all_terms ts h s.no_sum (each_term ts s.no_number) (number_words (rational_times_sum q ts) e).1 in
          let k : IsNumber (add ts) = (two_terms ts s.two, a, subst (λ (us : Trees). Rises (terms_of us)) (all_of ts a) s.number) in
          absurd (true≢false (sym (number_test (add ts) k) ∙ n))
