-- The addends of terms, of multiples of terms, and of sums.
use Rattle.like_children.proofs.Shared.{◌≡◌, ◌≢◌, ◌≤◌, ◌⊎◌, inl, inr, [], ◌∷◌, Bool, true, false, if◌then◌else◌, refl, sym, ap, ◌∙◌, subst, arith, append-nil, map, one-mul, true≢false, one_not_zero}
use Rattle.like_children.proofs.Shared.{number_test, term_words, product_not_zero, Same-sym, Same-refl, zero_term, AreTerms, IsNumber, natural_of, terms_of, value, HasForm, IsProductForm, IsSumForm}
use Rattle.like_children.proofs.Shared.{NoneIs, Split, num_one, number_terms, other_terms, part_of, product_tree, split_product, Surd, surd_of, surd_one, surd_scale, surd_times, term, term_times}
use Rattle.like_children.proofs.Shared.{Same, has_coefficient, one_is, zero_test, zero_is, Fraction, is_one_fraction, one_fraction, times, zero_fraction, is_zero_fraction, AllParts, AllPartsOf, Tree}
use Rattle.like_children.proofs.Shared.{Trees, add, append, count, is_add, more, mult, none, num, root, leading_factors, product_form_of, AreFactors, factors_monic, factors_of_tree, monic_coefficient}
use Rattle.like_children.proofs.Shared.{monic_no_number, monic_part, monic_parts, no_split, none_leads, spliced_split, IsFactor, not_one_is, number_scaled, terms-scaled, number_term, times_one}
use Rattle.like_children.proofs.Shared.{multiple, behind_none, behind_parts, unled, IsCoefficient, in_front, no_term, term_test, IsMonic, coefficient_of, factors_of, spliced, mapped}
use Rattle.like_children.proofs.Shared.{rational_times_number, rational_times_sum, rational_times_term, distributed, Addend, addend, addend_of, addends, addends_of}
use Rattle.surd_bits.proofs.Rooted.{as_rational as rational_value}
use Rattle.calc_algebra.specs.Numbers.{is_number}
use Rattle.coefficients.proofs.Splits.{Leads}

-- ---- which terms make the Number

pub number_terms-terms : (ts us : Trees) → AreTerms ts → NoneIs is_number us → number_terms (append ts us) ≡ ts
number_terms-terms none none h k = refl
number_terms-terms none (more u us) h k = ap (λ b. if b then more u (number_terms us) else none) (no_term u k.0)
number_terms-terms (more t ts) us h k = ap (λ b. if b then more t (number_terms (append ts us)) else none) (term_test t h.0) ∙ ap (more t) (number_terms-terms ts us h.1 k)

other_terms-none : (us : Trees) → NoneIs is_number us → other_terms us ≡ us
other_terms-none none k = refl
other_terms-none (more u us) k = ap (λ b. if b then other_terms us else more u us) (no_term u k.0)

pub other_terms-terms : (ts us : Trees) → AreTerms ts → NoneIs is_number us → other_terms (append ts us) ≡ us
other_terms-terms none us h k = other_terms-none us k
other_terms-terms (more t ts) us h k = ap (λ b. if b then other_terms (append ts us) else more t (append ts us)) (term_test t h.0) ∙ other_terms-terms ts us h.1 k

-- ---- terms

pub one_value : value num_one ≡ surd_one
one_value = ap (λ (b : Bool). if b then [] else surd_of one_fraction) (zero_test one_fraction one_not_zero)

-- the factors of a product's part are those behind its coefficient
factors_behind : (ts : Trees) → AllParts HasForm (mult ts) → is_number (mult ts) ≡ false → factors_of (product_tree (split_product ts).factors) ≡ (split_product ts).factors
factors_behind ts h n = grind (arith, product_form_of, in_front, no_split, factors_of_tree, leading_factors)

addend_is : (t : Tree) → AllParts HasForm t → is_number t ≡ false → addend_of t ≡ addend (value (coefficient_of t)) (factors_of (part_of t))
addend_is t h n = grind (arith, factors_behind, one_value)

pub one_addend : (t : Tree) → is_number t ≡ false → is_add t ≡ false → addends t ≡ addend_of t ∷ []
one_addend t n s = grind (arith, true≢false)

pub term_addends : (t : Tree) → AllParts HasForm t → is_number t ≡ false → is_add t ≡ false → addends t ≡ addend (value (coefficient_of t)) (factors_of (part_of t)) ∷ []
term_addends t h n s = one_addend t n s ∙ ap (λ (a : Addend). a ∷ []) (addend_is t h n)

pub monic_addends : (p : Tree) → IsMonic p → is_add p ≡ false → addends p ≡ addend surd_one (factors_of p) ∷ []
monic_addends p m s = grind (arith, term_addends, monic_parts, monic_no_number, monic_coefficient, monic_part, one_value)

pub spliced_addends : (c p : Tree) → IsNumber c → IsMonic p → is_number (spliced c p) ≡ false → addends (spliced c p) ≡ addend (value c) (factors_of p) ∷ []
spliced_addends c p k m n = grind (arith, one_addend, spliced_split)

-- ---- sums

-- the terms of a Number, and others behind them
pub record IsSplit (ts : Trees) : Type 0 where
  pub numbers : Trees
  pub others : Trees
  pub whole : ts ≡ append numbers others
  pub terms : AreTerms numbers
  pub no_number : NoneIs is_number others
  pub no_sum : NoneIs is_add others
  pub formed : AllPartsOf HasForm others

in_two : (ts : Trees) → ts ≡ append (number_terms ts) (other_terms ts)
in_two none = refl
in_two (more t ts) = grind (arith, in_two ts)

first_terms : (ts : Trees) → AreTerms (number_terms ts)
first_terms none = tt
first_terms (more t ts) = grind (arith, first_terms ts, term_words)

pub split_sum : (ts : Trees) → IsSumForm ts → AllPartsOf HasForm ts → IsSplit ts
split_sum ts s h =
    let e = in_two ts in
    record {
      numbers = number_terms ts;
      others = other_terms ts;
      whole = e;
      terms = first_terms ts;
      no_number = s.no_number;
      no_sum = behind_none is_add (number_terms ts) (other_terms ts) (subst (NoneIs is_add) e s.no_sum);
      formed = behind_parts HasForm (number_terms ts) (other_terms ts) (subst (AllPartsOf HasForm) e h);
    }

pub sum_addends : (ns os : Trees) → AreTerms ns → NoneIs is_number os → addends (add (append ns os)) ≡ addend (terms_of ns) none ∷ addends_of os
sum_addends ns os a n = λ i. addend (terms_of (number_terms-terms ns os a n i)) none ∷ addends_of (other_terms-terms ns os a n i)

-- ---- multiples

-- a rational times a surd
pub surd_multiple : (c : Fraction) (v : Surd) → surd_times (surd_of c) v ≡ surd_scale c v
surd_multiple c v = append-nil _ ∙ each v
  where
    each : (v : Surd) → map (term_times (term c 1)) v ≡ surd_scale c v
    each [] = refl
    each (t ∷ v) = λ i. term (times c t.coefficient) (one-mul t.radicand i) ∷ each v i

scaled_one : (q : Fraction) → surd_of q ≡ surd_scale q surd_one
scaled_one q = ap surd_of (sym (times_one q))

before_value : (c : Tree) (us : Trees) → IsNumber c → has_coefficient us ≡ false → value (coefficient_of (mult (append (factors_of c) us))) ≡ value c
before_value c us k h = ap (λ (s : Split). value s.coefficient) (spliced_split c us k h)

module _ (q : Fraction) (f : IsFactor q) where
  abbrev IsTimes : Tree → Surd → Type 0
  IsTimes u v = value (coefficient_of u) ≡ surd_scale q v

  no_coefficient : (us : Trees) → has_coefficient us ≡ false → IsTimes (mult (more (num q) us)) (value num_one)
  no_coefficient us h = before_value (num q) us tt h ∙ rational_value q f.not_zero ∙ scaled_one q ∙ ap (surd_scale q) (sym one_value)

  -- the coefficient becomes 1
  gone : (us : Trees) → AreFactors us → value (coefficient_of (product_tree us)) ≡ surd_one
  gone us a = ap value (monic_coefficient (product_tree us) (factors_monic us a)) ∙ one_value

  led : (c : Tree) (us : Trees) → IsCoefficient c → AreFactors us → IsTimes (rational_times_term q (mult (append (factors_of c) us))) (value c)
  led c us k a = by c k.number k.not_zero
    where
      h : has_coefficient us ≡ false
      h = none_leads us a.no_number

      by : (c : Tree) → IsNumber c → c ≢ num zero_fraction → IsTimes (rational_times_term q (mult (append (factors_of c) us))) (value c)
      by (num d) n z = rational (is_one_fraction (times q d)) refl ∙ ap (surd_scale q) (sym (rational_value d not_zero))
        where
          not_zero : d ≢ zero_fraction
          not_zero e = z (ap num e)

          rational : (b : Bool) → is_one_fraction (times q d) ≡ b → IsTimes (if b then product_tree us else mult (more (num (times q d)) us)) (surd_of d)
          rational true e = gone us a ∙ ap surd_of (sym (one_is (times q d) e))
          rational false e = before_value (num (times q d)) us tt h ∙ rational_value (times q d) (product_not_zero q d f.not_zero not_zero)
      by (root (num r)) n z =
          before_value (mult (more (num q) (more (root (num r)) none))) us (f.not_zero, f.not_one, n) h ∙ ap (λ (x : Fraction). term x (natural_of r.num) ∷ []) (sym (times_one q))
      by (mult (more (num d) (more (root (num r)) none))) n z = irrational (is_one_fraction (times q d)) refl
        where
          -- other factors stand behind it
          whole : (us : Trees) → 1 ≤ count us → product_tree (more (root (num r)) us) ≡ mult (more (root (num r)) us)
          whole none l = absurd (omega arith)
          whole (more u us) l = refl

          irrational : (b : Bool) → is_one_fraction (times q d) ≡ b
              → IsTimes (if b then product_tree (more (root (num r)) us) else mult (more (num (times q d)) (more (root (num r)) us))) (term d (natural_of r.num) ∷ [])
          irrational true e =
              ap (λ (t : Tree). value (coefficient_of t)) (whole us a.some) ∙ before_value (root (num r)) us n.2 h ∙ ap (λ (x : Fraction). term x (natural_of r.num) ∷ []) (sym (one_is (times q d) e))
          irrational false e = before_value (mult (more (num (times q d)) (more (root (num r)) none))) us (product_not_zero q d f.not_zero n.0, not_one_is (times q d) e, n.2) h
      by (add vs) n z =
          ap (λ (b : Bool). value (coefficient_of (if b then mult (more (rational_times_number q vs) us) else mult (more (num q) (more (add vs) us))))) (number_test (add vs) n)
          ∙ before_value (rational_times_number q vs) us (number_scaled q vs f n) h ∙ terms-scaled q vs f n.1
      by c n z = absurd n

  product_times : (ts : Trees) → AllParts HasForm (mult ts) → is_number (mult ts) ≡ false → IsProductForm ts → (has_coefficient ts ≡ false) ⊎ Leads ts
      → IsTimes (rational_times_term q (mult ts)) (value (split_product ts).coefficient)
  product_times ts h n g (inl k) = grind (arith, unled q f, no_coefficient, no_split)
  product_times ts h n g (inr l) =
      ap (λ (us : Trees). value (coefficient_of (rational_times_term q (mult us)))) l.whole ∙ led l.c l.factors l.coefficient (leading_factors ts l h n g)
      ∙ ap (λ (s : Split). surd_scale q (value s.coefficient)) (sym l.is)

  -- the coefficient is multiplied
  times_coefficient : (t : Tree) → AllParts HasForm t → is_number t ≡ false → is_add t ≡ false → IsTimes (rational_times_term q t) (value (coefficient_of t))
  unfolding is_number
  times_coefficient (num c) h n s = absurd (true≢false n)
  times_coefficient (add ts) h n s = absurd (true≢false s)
  times_coefficient (mult ts) h n s = let g = product_form_of ts h n in product_times ts h n g (in_front ts g.no_product g.front)
  times_coefficient t h n s = no_coefficient (more t none) n

  -- ---- and of sums

  number_multiples : (ts : Trees) → AreTerms ts → AreTerms (mapped (rational_times_term q) ts)
  number_multiples none h = tt
  number_multiples (more t ts) h = ((number_term q t f h.0).one, number_multiples ts h.1)

  terms_multiples : (ts : Trees) → AreTerms ts → terms_of (mapped (rational_times_term q) ts) ≡ surd_scale q (terms_of ts)
  terms_multiples none h = refl
  terms_multiples (more t ts) h = λ i. (number_term q t f h.0).term_is i ∷ terms_multiples ts h.1 i

  other_multiples : (ts : Trees) → AllPartsOf HasForm ts → NoneIs is_number ts → NoneIs is_add ts → NoneIs is_number (mapped (rational_times_term q) ts)
  other_multiples none h n s = tt
  other_multiples (more t ts) h n s = ((multiple q f t h.0 n.0 s.0).no_number, other_multiples ts h.1 n.1 s.1)

  mapped_both : (ts us : Trees) → mapped (rational_times_term q) (append ts us) ≡ append (mapped (rational_times_term q) ts) (mapped (rational_times_term q) us)
  mapped_both none us = refl
  mapped_both (more t ts) us = ap (more (rational_times_term q t)) (mapped_both ts us)

  one_multiple : (t : Tree) → AllParts HasForm t → is_number t ≡ false → is_add t ≡ false
      → addend_of (rational_times_term q t) ≡ addend (surd_times (surd_of q) (addend_of t).coefficient) (addend_of t).factors
  one_multiple t h n s =
      let m = multiple q f t h n s in
      addend_is (rational_times_term q t) m.formed m.no_number ∙ (λ i. addend (times_coefficient t h n s i) (factors_of (m.part i)))
      ∙ ap (λ (v : Surd). addend v (factors_of (part_of t))) (sym (surd_multiple q (value (coefficient_of t))))
      ∙ ap (λ (a : Addend). addend (surd_times (surd_of q) a.coefficient) a.factors) (sym (addend_is t h n))

  all_multiples : (ts : Trees) → AllPartsOf HasForm ts → NoneIs is_number ts → NoneIs is_add ts → addends_of (mapped (rational_times_term q) ts) ≡ distributed (surd_of q) (addends_of ts)
  all_multiples none h n s = refl
  all_multiples (more t ts) h n s = λ i. one_multiple t h.0 n.0 s.0 i ∷ all_multiples ts h.1 n.1 s.1 i

  pub multiple_addends : (ts : Trees) → IsSplit ts → addends (rational_times_sum q ts) ≡ distributed (surd_of q) (addends (add ts))
  multiple_addends ts x = grind (arith, mapped_both, sum_addends, number_multiples, other_multiples, terms_multiples, surd_multiple, all_multiples)
