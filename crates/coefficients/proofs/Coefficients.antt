-- Laws of the coefficient of a reduced tree, of its part, and of the two put together.
use Rattle.coefficients.proofs.Shared.{names_of-append, true≢false, ◌≡◌, ◌≢◌, ℕ, ◌⊎◌, inl, inr, ◌++◌, List, Bool, true, false, if◌then◌else◌, refl, sym, ap, ◌∙◌, subst, arith, append-nil, Contains}
use Rattle.coefficients.proofs.Shared.{[], not_from_false, Fraction, zero_fraction, is_zero_fraction, is_one_fraction, has_coefficient, is_number, IsNumber, Split, split, split_product, num_one}
use Rattle.coefficients.proofs.Shared.{product_tree, part_of, is_reduced, is_one_add, IsProductForm, IsSumForm, HasForm, Tree, num, add, mult, Trees, none, more, append, names, names_of, AllParts}
use Rattle.coefficients.proofs.Shared.{is_add, is_undef, zero_is, zero_test, one_test, no_zero, number_test, keeps, coefficient_of, factors_of, spliced, rational_before, with_coefficient, IsMonic}
use Rattle.coefficients.proofs.{Shared.{rational_times_sum, Contains-append_right, one_not_zero, HasNoNewName, Reduces, own_form}, Factors.{no_split, AreFactors, factors_monic, factors_of_tree}}
use Rattle.coefficients.proofs.{Factors.{monic_factors, monic_parts, monic_part, monic_no_number, tree_of_factors}, Forms.{reduced_parts, parts_reduced, parts_defined, number_parts}}
use Rattle.coefficients.proofs.{Keeps.{coefficient_keeps, sum_names}, NumberMultiples.{IsFactor, not_one_is}, Splits.{IsCoefficient, Leads, in_front, IsSpread, put_together}}
use Rattle.coefficients.proofs.{SumMultiples.{sum_form_multiple, parts_multiple, no_number_multiple}, TermMultiples.{factors_behind, spread_behind, irrational, rational}}
use Rattle.calc_terms.proofs.SmallLaws.{nobody as no_name}
use Rattle.number_forms.proofs.Placings.{one_test as one_is_one}
pub use Rattle.coefficients.proofs.TermMultiples.{product_form_of}
use Rattle.calc_algebra.proofs.NumberRewrites as lower

-- the same coefficient as in the laws of meanings
pub coefficient_same : (t : Tree) → coefficient_of t ≡ lower.coefficient_of t
coefficient_same t = grind arith

-- ---- a reduced tree taken apart

-- a reduced tree other than Undef and the Numbers
pub record IsTaken (t : Tree) : Type 0 where
  pub number : IsNumber (coefficient_of t)
  pub not_zero : coefficient_of t ≢ num zero_fraction
  pub monic : IsMonic (part_of t)
  pub whole : with_coefficient (coefficient_of t) (part_of t) ≡ t

one_zero : num_one ≢ num zero_fraction
one_zero = grind (arith, one_not_zero)

one_before : (p : Tree) → with_coefficient num_one p ≡ p
one_before p = grind (arith, zero_test, one_not_zero, one_is_one)

monic_taken : (t : Tree) → IsMonic t → coefficient_of t ≡ num_one → IsTaken t
monic_taken t m e = grind (arith, one_zero, monic_part, one_before)

-- what is written before factors that are no sum alone is what is spliced
pub before_factors : (c : Tree) (us : Trees) → IsCoefficient c → AreFactors us → IsSpread c us → with_coefficient c (product_tree us) ≡ mult (append (factors_of c) us)
before_factors c us k a d = grind (arith, zero_test, one_test, factors_of_tree, true≢false)

led_taken : (ts : Trees) (l : Leads ts) → AreFactors l.factors → IsProductForm ts → IsTaken (mult ts)
led_taken ts l a f = grind (arith, split_product, factors_monic, before_factors, spread_behind)

pub leading_factors : (ts : Trees) (l : Leads ts) → AllParts HasForm (mult ts) → is_number (mult ts) ≡ false → IsProductForm ts → AreFactors l.factors
leading_factors ts l h n f = grind (arith, factors_behind, split_product, split)

product_taken : (ts : Trees) → AllParts HasForm (mult ts) → is_number (mult ts) ≡ false → IsProductForm ts → (has_coefficient ts ≡ false) ⊎ Leads ts → IsTaken (mult ts)
product_taken ts h n f (inl k) = monic_taken (mult ts) (record { reduced = parts_reduced (mult ts) h; defined = refl; no_coefficient = k }) (ap (λ (s : Split). s.coefficient) (no_split ts k))
product_taken ts h n f (inr l) = led_taken ts l (leading_factors ts l h n f) f

taken_parts : (t : Tree) → AllParts HasForm t → is_number t ≡ false → IsTaken t
taken_parts t h n = grind (arith, product_form_of, product_taken, in_front, monic_taken, parts_reduced, parts_defined)

pub taken : (t : Tree) → is_reduced t ≡ true → is_undef t ≡ false → is_number t ≡ false → IsTaken t
taken t r d n = taken_parts t (reduced_parts t r d) n

-- ---- put together again

-- a coefficient other than 0 before a part: reduced and no Number, and where it is no sum a term with that part
pub record IsPut (p t : Tree) : Type 0 where
  pub formed : AllParts HasForm t
  pub no_number : is_number t ≡ false
  pub part : is_add t ≡ false → part_of t ≡ p

put_whole : (p t : Tree) → IsMonic p → t ≡ p → IsPut p t
put_whole p t m e = subst (IsPut p) (sym e) (record { formed = monic_parts p m; no_number = monic_no_number p m; part = λ s. monic_part p m })

put_spliced : (c p : Tree) → IsCoefficient c → IsMonic p → IsSpread c (factors_of p) → IsPut p (spliced c p)
put_spliced c p k m d = grind (arith, put_together, monic_factors, tree_of_factors)

sum_form_of : (ts : Trees) → IsMonic (add ts) → HasForm (add ts) → IsSumForm ts
sum_form_of ts m h = grind (arith, true≢false, number_test, monic_no_number)

pub monic_sum : (ts : Trees) → IsMonic (add ts) → IsSumForm ts
monic_sum ts m = sum_form_of ts m (own_form (add ts) (monic_parts (add ts) m))

put_sum : (q : Fraction) (ts : Trees) → IsFactor q → IsMonic (add ts) → IsPut (add ts) (rational_times_sum q ts)
put_sum q ts f m =
    let s = monic_sum ts m in
    let parts = (monic_parts (add ts) m).1 in
    record {
      formed = (inr (sum_form_multiple q f ts s parts), parts_multiple q f ts s parts);
      no_number = no_number_multiple q f ts s parts (monic_no_number (add ts) m);
      part = λ (e : true ≡ false). absurd (true≢false e);
    }

put_before : (q : Fraction) (p : Tree) → IsFactor q → IsMonic p → IsPut p (rational_before q p)
put_before q (add ts) f m = put_sum q ts f m
put_before q (mult ts) f m = put_spliced (num q) (mult ts) (rational q f.not_zero f.not_one) m (λ e. two_alone ts (monic_factors (mult ts) m) (tree_of_factors (mult ts) m))
  where
    two_alone : (us : Trees) → AreFactors us → product_tree us ≡ mult ts → is_one_add us ≡ false
    two_alone none a e = refl
    two_alone (more (add vs) none) a e = cc
    two_alone (more (add vs) (more u us)) a e = refl
    two_alone (more t us) a e = refl
put_before q p f m = put_spliced (num q) p (rational q f.not_zero f.not_one) m (λ e. refl)

pub put : (c p : Tree) → IsNumber c → c ≢ num zero_fraction → IsMonic p → IsPut p (with_coefficient c p)
put (num q) p h z m = by (is_zero_fraction q) (is_one_fraction q) refl refl
  where
    by : (a b : Bool) → is_zero_fraction q ≡ a → is_one_fraction q ≡ b → IsPut p (if a then num zero_fraction else (if b then p else rational_before q p))
    by true b e g = absurd (z (ap num (zero_is q e)))
    by false true e g = put_whole p p m refl
    by false false e g = put_before q p (record { not_zero = λ x. z (ap num x); not_one = not_one_is q g }) m
put c p h z m = put_spliced c p (irrational c h refl) m (λ (e : false ≡ true). absurd (true≢false (sym e)))

-- whether a Number is zero
pub zero_or_not : (c : Tree) → (c ≡ num zero_fraction) ⊎ (c ≢ num zero_fraction)
zero_or_not (num q) = by (is_zero_fraction q) refl
  where
    num_path : {p q : Fraction} → num p ≡ num q → p ≡ q
    num_path e = cc

    by : (b : Bool) → is_zero_fraction q ≡ b → (num q ≡ num zero_fraction) ⊎ (num q ≢ num zero_fraction)
    by true e = inl (ap num (zero_is q e))
    by false e = inr (λ g. no_zero q (not_from_false _ e) (num_path g))
zero_or_not c = inr (λ e. cc)

zero_before : (p : Tree) → with_coefficient (num zero_fraction) p ≡ num zero_fraction
zero_before p = by (is_zero_fraction zero_fraction) refl
  where
    by : (b : Bool) → is_zero_fraction zero_fraction ≡ b → (if b then num zero_fraction else (if is_one_fraction zero_fraction then p else rational_before zero_fraction p)) ≡ num zero_fraction
    by true e = refl
    by false e = absurd (no_zero zero_fraction (not_from_false _ e) refl)

pub put_formed : (c p : Tree) → IsNumber c → IsMonic p → AllParts HasForm (with_coefficient c p)
put_formed c p h m = grind (arith, zero_or_not, zero_before, number_parts, put)

-- ---- names

names_factors : (t : Tree) → names_of (factors_of t) ≡ names t
names_factors t = grind (arith, append-nil)

-- none, or those of both
NamesOf : Tree → Tree → Tree → Type 0
NamesOf c p t = (names t ≡ []) ⊎ ((names t ≡ names p) ⊎ (names t ≡ names c ++ names p))

names_spliced : (c p : Tree) → names (spliced c p) ≡ names c ++ names p
names_spliced c p = names_of-append (factors_of c) (factors_of p) ∙ (λ i. names_factors c i ++ names_factors p i)

names_before : (q : Fraction) (p : Tree) → names (rational_before q p) ≡ names p
names_before q (add ts) = sum_names q ts
names_before q p = names_spliced (num q) p

names_put : (c p : Tree) → NamesOf c p (with_coefficient c p)
unfolding NamesOf
names_put (num q) p = by (is_zero_fraction q) (is_one_fraction q)
  where
    by : (a b : Bool) → NamesOf (num q) p (if a then num zero_fraction else (if b then p else rational_before q p))
    by true b = inl refl
    by false true = inr (inl refl)
    by false false = inr (inl (names_before q p))
names_put c p = inr (inr (names_spliced c p))

no_new_names : (c p t : Tree) → NamesOf c p t → HasNoNewName (mult (more c (more p none))) t
unfolding NamesOf
no_new_names c p t (inl e) = record { name = λ x h. absurd (no_name x (subst (λ (ns : List (List ℕ)). Contains ns x) e h)) }
no_new_names c p t (inr (inl e)) = record { name = λ x h. Contains-append_right (names c) (names p ++ []) x (subst (λ (ns : List (List ℕ)). Contains ns x) (e ∙ sym (append-nil (names p))) h) }
no_new_names c p t (inr (inr e)) = record { name = λ x h. subst (λ (ns : List (List ℕ)). Contains ns x) (e ∙ ap (λ (y : List (List ℕ)). names c ++ y) (sym (append-nil (names p)))) h }

-- a coefficient before a part reduces their product
pub put_reduces : (c p : Tree) → IsNumber c → IsMonic p → Reduces (mult (more c (more p none))) (with_coefficient c p)
put_reduces c p h m = grind (arith, parts_reduced, put_formed, no_new_names, names_put, keeps, coefficient_keeps)
