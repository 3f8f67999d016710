-- Lemmas on the tree of a constant and multiples of names: it is reduced, what it means, and its bytes.
use Rattle.calc_session.proofs.Shared.{◌≡◌, ◌∙◌, inl, inr, suc, ◌*◌, [], ◌∷◌, Bool, true, false, refl, sym, ap, subst, arith, All, ◌&&◌, Assignment, Means, is_number, terms_of, HasForm, IsProductForm}
use Rattle.calc_session.proofs.Shared.{NoneIs, RisesBy, is_reduced, number_terms, other_terms, part_of, surd_of, tree_cmp, Same-sym, reduced_test, Same-trans, Same-eq, Same-refl, joined_radicand}
use Rattle.calc_session.proofs.Shared.{surd_times-terms, zero_term, no_one, no_zero, one_is, zero_is, Fraction, plus, times, is_one_fraction, is_zero_fraction, zero_fraction, AllParts, AllPartsOf}
use Rattle.calc_session.proofs.Shared.{Tree, num, symbol, add, mult, Trees, none, more, count, is_add, size, sizes, Assigns, worth, Rises, is_before, form_tree, multiple_of, multiples, sum_of_trees}
use Rattle.calc_session.proofs.Shared.{summands, none_sum, one_sum, product_more, product_one, sum_more, sum_none, one_times, zero_times, zero_plus, before_is}
use Rattle.std.proofs.Common.{ℕ, ◌≤◌, List, length, if◌then◌else◌, not}
use Rattle.calc_algebra.specs.{Meanings.{Gives}, Numbers.{Rises as TermsRise}}

-- ---- a multiple of a name

part_is : (q : Fraction) (x : List ℕ) → part_of (multiple_of q x) ≡ symbol x
part_is q x = grind arith

no_sum_of : (q : Fraction) (x : List ℕ) → is_add (multiple_of q x) ≡ false
no_sum_of q x = grind arith

no_number_of : (q : Fraction) (x : List ℕ) → is_number (multiple_of q x) ≡ false
unfolding is_number
no_number_of q x = grind arith

no_term_of : (q : Fraction) (x : List ℕ) (ts : Trees) → number_terms (more (multiple_of q x) ts) ≡ none
no_term_of q x ts = grind arith

other_of : (q : Fraction) (x : List ℕ) (ts : Trees) → other_terms (more (multiple_of q x) ts) ≡ more (multiple_of q x) ts
other_of q x ts = grind arith

not_true : (b : Bool) → b ≡ false → not b ≡ true
not_true b e = ap not e

product_form_of : (q : Fraction) (x : List ℕ) → is_zero_fraction q ≡ false → is_one_fraction q ≡ false → IsProductForm (more (num q) (more (symbol x) none))
unfolding is_number
product_form_of q x z o = record {
  two = tt;
  no_product = (refl, (refl, tt));
  front = (no_zero q (not_true _ z), no_one q (not_true _ o));
  no_number = (refl, tt);
  rising = tt;
  distributed = by (is_one_fraction q);
}
  where
    by : (b : Bool) → (not b && false) ≡ false
    by true = refl
    by false = refl

pub multiple_form : (q : Fraction) (x : List ℕ) → is_zero_fraction q ≡ false → AllParts HasForm (multiple_of q x)
multiple_form q x z = by (is_one_fraction q) refl
  where
    by : (b : Bool) → is_one_fraction q ≡ b → AllParts HasForm (if b then symbol x else mult (more (num q) (more (symbol x) none)))
    by true e = inr tt
    by false e = (inr (product_form_of q x z e), (inl tt, (inr tt, tt)))

-- ---- their sum

all_multiples : (P : Tree → Type 0) → ((q : Fraction) (x : List ℕ) → is_zero_fraction q ≡ false → AllParts P (multiple_of q x)) → (xs : List (List ℕ)) (qs : List Fraction) → AllPartsOf P (multiples xs qs)
all_multiples P h [] qs = tt
all_multiples P h (x ∷ xs) [] = tt
all_multiples P h (x ∷ xs) (q ∷ qs) = grind (arith, all_multiples P h xs qs)

none_among : (p : Tree → Bool) → ((q : Fraction) (x : List ℕ) → p (multiple_of q x) ≡ false) → (xs : List (List ℕ)) (qs : List Fraction) → NoneIs p (multiples xs qs)
none_among p h [] qs = tt
none_among p h (x ∷ xs) [] = tt
none_among p h (x ∷ xs) (q ∷ qs) = grind (arith, none_among p h xs qs)

-- a name that is before all is before the first that has a multiple
rises_behind : (q : Fraction) (x : List ℕ) (xs : List (List ℕ)) (qs : List Fraction) → All (λ y. is_before x y ≡ true) xs → RisesBy part_of (multiples xs qs) → RisesBy part_of (more (multiple_of q x) (multiples xs qs))
rises_behind q x [] qs h r = tt
rises_behind q x (y ∷ ys) [] h r = tt
rises_behind q x (y ∷ ys) (p ∷ qs) h r = by (is_zero_fraction p) r (rises_behind q x ys qs (λ k d l. h (suc k) d (omega arith)))
  where
    by : (b : Bool) → RisesBy part_of (if b then multiples ys qs else more (multiple_of p y) (multiples ys qs)) → (RisesBy part_of (multiples ys qs) → RisesBy part_of (more (multiple_of q x) (multiples ys qs)))
        → RisesBy part_of (more (multiple_of q x) (if b then multiples ys qs else more (multiple_of p y) (multiples ys qs)))
    by true r rest = rest r
    by false r rest = ((λ i. tree_cmp (part_is q x i) (part_is p y i)) ∙ before_is x y (h 0 y (omega arith)), r)

rising_multiples : (xs : List (List ℕ)) (qs : List Fraction) → Rises xs → RisesBy part_of (multiples xs qs)
rising_multiples [] qs h = tt
rising_multiples (x ∷ xs) [] h = tt
rising_multiples (x ∷ xs) (q ∷ qs) h = grind (arith, rising_multiples xs qs h.1, rises_behind)

no_number_terms : (xs : List (List ℕ)) (qs : List Fraction) → (number_terms (multiples xs qs) ≡ none) × (other_terms (multiples xs qs) ≡ multiples xs qs)
no_number_terms [] qs = (refl, refl)
no_number_terms (x ∷ xs) [] = (refl, refl)
no_number_terms (x ∷ xs) (q ∷ qs) = grind (arith, no_number_terms xs qs, no_term_of, other_of)

-- what is said of the summands
record AreSummands (ts : Trees) : Type 0 where
  parts : AllPartsOf HasForm ts
  no_sum : NoneIs is_add ts
  number : TermsRise (terms_of (number_terms ts))
  no_number : NoneIs is_number (other_terms ts)
  rising : RisesBy part_of (other_terms ts)

are_summands : (xs : List (List ℕ)) (q : Fraction) (qs : List Fraction) → Rises xs → AreSummands (summands xs q qs)
are_summands xs q qs h = by (is_zero_fraction q) refl
  where
    by : (b : Bool) → is_zero_fraction q ≡ b → AreSummands (if b then multiples xs qs else more (num q) (multiples xs qs))
    by true e = record {
      parts = all_multiples HasForm multiple_form xs qs;
      no_sum = none_among is_add no_sum_of xs qs;
      number = subst (λ ts. TermsRise (terms_of ts)) (sym (no_number_terms xs qs).0) tt;
      no_number = subst (NoneIs is_number) (sym (no_number_terms xs qs).1) (none_among is_number no_number_of xs qs);
      rising = subst (RisesBy part_of) (sym (no_number_terms xs qs).1) (rising_multiples xs qs h);
    }
    by false e = record {
      parts = (inl tt, all_multiples HasForm multiple_form xs qs);
      no_sum = (refl, none_among is_add no_sum_of xs qs);
      number = subst (λ ts. TermsRise (terms_of ts)) (sym (ap (λ b. if not b then more (num q) (number_terms (multiples xs qs)) else none) e ∙ ap (more (num q)) (no_number_terms xs qs).0)) (tt, tt);
      no_number = subst (NoneIs is_number) (sym (ap (λ b. if not b then other_terms (multiples xs qs) else more (num q) (multiples xs qs)) e ∙ (no_number_terms xs qs).1)) (none_among is_number no_number_of xs qs);
      rising = subst (RisesBy part_of) (sym (ap (λ b. if not b then other_terms (multiples xs qs) else more (num q) (multiples xs qs)) e ∙ (no_number_terms xs qs).1)) (rising_multiples xs qs h);
    }

sum_reduced : (ts : Trees) → AreSummands ts → is_reduced (sum_of_trees ts) ≡ true
sum_reduced ts h = grind (arith, reduced_test)

-- the tree of a form is reduced
pub form_reduced : (xs : List (List ℕ)) (q : Fraction) (qs : List Fraction) → Rises xs → is_reduced (form_tree xs q qs) ≡ true
form_reduced xs q qs h = sum_reduced (summands xs q qs) (are_summands xs q qs h)

-- ---- what it means

multiple_means : (f : Assignment) (q : Fraction) (x : List ℕ) (v : Fraction) → Gives f x v → Means (multiple_of q x) f (surd_of (times q v))
multiple_means f q x v g = by (is_one_fraction q) refl
  where
    by : (b : Bool) → is_one_fraction q ≡ b → Means (if b then symbol x else mult (more (num q) (more (symbol x) none))) f (surd_of (times q v))
    by true e = (v, g, Same-eq (ap surd_of (ap (λ p. times p v) (one_is q e) ∙ one_times v)))
    by false e = product_more f (num q) (more (symbol x) none) (surd_of (times q v)) (surd_of q) (surd_of v) (Same-refl (surd_of q)) (product_one f (symbol x) (surd_of v) (v, g, Same-refl (surd_of v))) (Same-eq (sym (surd_times-terms q v 1 1)))

multiples_mean : (f : Assignment) (xs : List (List ℕ)) (qs vs : List Fraction) → Assigns f xs vs → length qs ≤ length xs → Means (add (multiples xs qs)) f (surd_of (worth qs vs))
multiples_mean f [] [] vs g l = sum_none f (surd_of zero_fraction) (zero_term 1)
multiples_mean f [] (q ∷ qs) vs g l = absurd (omega (arith, l))
multiples_mean f (x ∷ xs) [] vs g l = sum_none f (surd_of zero_fraction) (zero_term 1)
multiples_mean f (x ∷ xs) (q ∷ qs) [] g l = absurd g
multiples_mean f (x ∷ xs) (q ∷ qs) (v ∷ vs) g l = by (is_zero_fraction q) refl (multiples_mean f xs qs vs g.1 (omega (arith, l)))
  where
    by : (b : Bool) → is_zero_fraction q ≡ b → Means (add (multiples xs qs)) f (surd_of (worth qs vs)) → Means (add (if b then multiples xs qs else more (multiple_of q x) (multiples xs qs))) f (surd_of (plus (times q v) (worth qs vs)))
    by true e rest = subst (λ w. Means (add (multiples xs qs)) f (surd_of w)) (sym (ap (λ p. plus (times p v) (worth qs vs)) (zero_is q e) ∙ ap (λ p. plus p (worth qs vs)) (zero_times v) ∙ zero_plus (worth qs vs))) rest
    by false e rest = sum_more f (multiple_of q x) (multiples xs qs) (surd_of (plus (times q v) (worth qs vs))) (surd_of (times q v)) (surd_of (worth qs vs)) (multiple_means f q x v g.0) rest (Same-sym (joined_radicand (times q v) (worth qs vs) 1))

sum_means : (f : Assignment) (ts : Trees) (w : Fraction) → Means (add ts) f (surd_of w) → Means (sum_of_trees ts) f (surd_of w)
sum_means f none w m = Same-trans (none_sum f (surd_of w) m) (Same-sym (zero_term 1))
sum_means f (more t none) w m = one_sum f t (surd_of w) m
sum_means f (more t (more u ts)) w m = m

-- the tree of a form means the constant and the multiples of the names' values
pub form_means : (f : Assignment) (xs : List (List ℕ)) (q : Fraction) (qs vs : List Fraction) → Assigns f xs vs → length qs ≤ length xs → Means (form_tree xs q qs) f (surd_of (plus q (worth qs vs)))
form_means f xs q qs vs g l = sum_means f (summands xs q qs) (plus q (worth qs vs)) (by (is_zero_fraction q) refl)
  where
    by : (b : Bool) → is_zero_fraction q ≡ b → Means (add (if b then multiples xs qs else more (num q) (multiples xs qs))) f (surd_of (plus q (worth qs vs)))
    by true e = subst (λ w. Means (add (multiples xs qs)) f (surd_of w)) (sym (ap (λ p. plus p (worth qs vs)) (zero_is q e) ∙ zero_plus (worth qs vs))) (multiples_mean f xs qs vs g l)
    by false e = sum_more f (num q) (multiples xs qs) (surd_of (plus q (worth qs vs))) (surd_of q) (surd_of (worth qs vs)) (Same-refl (surd_of q)) (multiples_mean f xs qs vs g l) (Same-sym (joined_radicand q (worth qs vs) 1))

-- ---- its bytes

size_of_multiple : (q : Fraction) (x : List ℕ) → size (multiple_of q x) ≤ 64
size_of_multiple q x = grind arith

pub sizes_of_multiples : (xs : List (List ℕ)) (qs : List Fraction) → sizes (multiples xs qs) ≤ 64 * count (multiples xs qs)
sizes_of_multiples [] qs = omega arith
sizes_of_multiples (x ∷ xs) [] = omega arith
sizes_of_multiples (x ∷ xs) (q ∷ qs) = grind (arith, sizes_of_multiples xs qs, size_of_multiple)
