-- The product of an exponent that counts its base and of a whole number counts it as often as both together.
use Rattle.node_bounds.proofs.Shared.{◌≡◌, ℕ, ℤ, ◌*ℤ◌, Bool, true, false, ◌||◌, ◌==◌, List, refl, sym, ap, ◌∙◌, subst, arith, inl, inr, *ℤ_comm, and_parts, is_number, value, are_reduced, is_reduced}
use Rattle.node_bounds.proofs.Shared.{product_tree, Same, surd_of, number_words, Same-trans, Same-eq, Same-surd_times, Fraction, whole_fraction, one_fraction, Tree, num, symbol, add, mult, Trees}
use Rattle.node_bounds.proofs.Shared.{none, more, has_undef, with_coefficient, IsMonic, reduced_parts, IsCountedWithin, MultipliesCounts, is_zero, IsFinished, IsWrittenProduct, opened, numbers_in}
use Rattle.node_bounds.proofs.Shared.{others_in, product_of_values, coefficient_times, have_partners, whole_of, num_value, num_counted, zero_counted, put_counted, Counts, counts, multiple, counts_of}
use Rattle.node_bounds.proofs.Shared.{is_counted, IsWithin, symbol_monic, permuted_none_is, cases_Bool, whole_times, counted_defined, multiple_of, permuted_one_is, of_lists, within_after}
use Rattle.node_bounds.proofs.{Shared.{product_within}, Clashes.{clash, unclear, rational_number, zero_words}}
use Rattle.sum_reduce.proofs.CollectedExponents.{whole_number, as_whole}

-- ---- the factors

-- a whole number, with a factor that counts behind it or none
data IsParted (c : Counts) (n : ℤ) (ts : Trees) : Type 0 where
  number_alone : (z : ℤ) → Same (product_of_values (numbers_in (opened ts))) (surd_of (whole_fraction z)) → others_in (opened ts) ≡ none → IsWithin (multiple z (counts 1 0)) (multiple n c)
      → IsParted c n ts
  one_factor : (z : ℤ) (w : Tree) → Same (product_of_values (numbers_in (opened ts))) (surd_of (whole_fraction z)) → others_in (opened ts) ≡ more w none → IsMonic w → is_counted w ≡ true
      → IsWithin (multiple z (counts_of w)) (multiple n c) → IsParted c n ts

-- products of whole numbers
one_product : (n : ℤ) → Same (product_of_values (more (num (whole_fraction n)) none)) (surd_of (whole_fraction n))
unfolding one_fraction
one_product n = grind (arith, num_value, whole_times)

two_product : (q : Fraction) (n : ℤ) → (q.den == 1) ≡ true → Same (product_of_values (more (num q) (more (num (whole_fraction n)) none))) (surd_of (whole_fraction (q.num *ℤ n)))
two_product q n w =
    Same-trans (Same-surd_times (subst (λ (r : Fraction). Same (value (num q)) (surd_of r)) (whole_of q w) (num_value q)) (one_product n)) (Same-eq (ap surd_of (whole_times q.num n)))

with_number : (q : Fraction) (ts : Trees) → (numbers_in (more (num q) ts) ≡ more (num q) (numbers_in ts)) × (others_in (more (num q) ts) ≡ others_in ts)
with_number q ts = grind (arith, rational_number)

with_other : (t : Tree) (ts : Trees) → is_number t ≡ false → (numbers_in (more t ts) ≡ numbers_in ts) × (others_in (more t ts) ≡ more t (others_in ts))
with_other t ts h = grind arith

turned_within : (q : Fraction) (n : ℤ) (c : Counts) → IsWithin (multiple (q.num *ℤ n) c) (multiple n (multiple q.num c))
turned_within q n c = subst (λ (z : ℤ). IsWithin (multiple z c) (multiple n (multiple q.num c))) (*ℤ_comm n q.num) (product_within n q.num c)

symbol_number : (x : List ℕ) → is_number (symbol x) ≡ false
unfolding is_number
symbol_number x = refl

-- one factor other than a Number, and the whole number
single_parted : (w : Tree) (n : ℤ) (ts : Trees) → opened ts ≡ more w (more (num (whole_fraction n)) none) → is_number w ≡ false → IsMonic w → is_counted w ≡ true → IsParted (counts_of w) n ts
single_parted w n ts e k m c =
    let (a, b) = with_other w (more (num (whole_fraction n)) none) k in
    let (i, j) = with_number (whole_fraction n) none in
    one_factor n w (subst (λ (us : Trees). Same (product_of_values us) (surd_of (whole_fraction n))) (sym (ap numbers_in e ∙ a ∙ i)) (one_product n)) (ap others_in e ∙ b ∙ ap (more w) j) m c (record {
      up =
          omega arith;
      down = omega arith;
    })

same_within : (c d : Counts) → c ≡ d → IsWithin c d
same_within c d e = subst (IsWithin c) e (record { up = omega arith; down = omega arith })

parted : (f : Tree) (n : ℤ) → is_reduced f ≡ true → is_counted f ≡ true → IsParted (counts_of f) n (more f (more (num (whole_fraction n)) none))
parted (num q) n r c =
    let (a, b) = with_number q (more (num (whole_fraction n)) none) in
    let (i, j) = with_number (whole_fraction n) none in
    number_alone (q.num *ℤ n) (subst (λ (us : Trees). Same (product_of_values us) (surd_of (whole_fraction (q.num *ℤ n)))) (sym (a ∙ ap (more (num q)) i)) (two_product q n c)) (b ∙ j)
    (turned_within q n (counts 1 0))
parted (symbol x) n r c = single_parted (symbol x) n (more (symbol x) (more (num (whole_fraction n)) none)) refl (symbol_number x) (symbol_monic x) c
parted (add ts) n r c = elim (cases_Bool (is_number (add ts))) [
  | inl k ↦ let w = whole_number (add ts) (number_words (add ts) k) c in absurd (cc w.is)
  | inr k ↦ single_parted (add ts) n (more (add ts) (more (num (whole_fraction n)) none)) refl k (record { reduced = r; defined = refl; no_coefficient = k }) c
]
parted (mult (more (num q) (more t none))) n r c =
    let m = multiple_of q t (reduced_parts (mult (more (num q) (more t none))) r refl) c in
    let e : opened (more (mult (more (num q) (more t none))) (more (num (whole_fraction n)) none)) ≡ more (num q) (more (symbol m.name) (more (num (whole_fraction n)) none)) = ap (λ (u : Tree). more (num q) (more u (more (num (whole_fraction n)) none))) m.is in
    let (a, b) = with_number q (more (symbol m.name) (more (num (whole_fraction n)) none)) in
    let (g, h) = with_other (symbol m.name) (more (num (whole_fraction n)) none) (symbol_number m.name) in
    let (i, j) = with_number (whole_fraction n) none in
    one_factor (q.num *ℤ n) (symbol m.name)
    (subst (λ (us : Trees). Same (product_of_values us) (surd_of (whole_fraction (q.num *ℤ n)))) (sym (ap numbers_in e ∙ a ∙ ap (more (num q)) (g ∙ i))) (two_product q n m.whole))
    (ap others_in e ∙ b ∙ h ∙ ap (more (symbol m.name)) j) (symbol_monic m.name) refl
    (within_after (turned_within q n (counts 1 0)) (same_within (multiple n (multiple q.num (counts 1 0))) (multiple n (multiple q.num (counts_of t))) (ap (λ (u : Tree). multiple n (multiple q.num (counts_of u))) (sym m.is))))
parted t n r c = unclear c

-- ---- what is written of them

told_within : {t : Tree} {c d : Counts} → IsCountedWithin c t → IsWithin c d → IsCountedWithin d t
told_within a w = record { counted = a.counted; within = within_after a.within w }

written_counts : (ts : Trees) (t : Tree) (c : Counts) (n : ℤ) → IsWrittenProduct ts t → IsParted c n ts → IsCountedWithin (multiple n c) t
written_counts ts t c n w (number_alone z same none_else fits) = by (is_zero w.coefficient) refl
  where
    i : w.coefficient ≡ num (whole_fraction z)
    i = as_whole w.coefficient z w.is_coefficient.number (Same-trans w.is_coefficient.same same)

    counts_as : t ≡ w.coefficient → IsCountedWithin (multiple n c) t
    counts_as e = subst (IsCountedWithin (multiple n c)) (sym (e ∙ i)) (told_within (num_counted z) fits)

    by : (b : Bool) → is_zero w.coefficient ≡ b → IsCountedWithin (multiple n c) t
    by true e = counts_as (w.zero e)
    by false e =
        let x = w.written e in
        counts_as (x.is ∙ ap (coefficient_times w.coefficient) (permuted_none_is (of_lists (others_in (opened ts)) x.us x.sorted.moved) none_else))
written_counts ts t c n w (one_factor z p same one_else monic counted fits) = by (is_zero w.coefficient) refl
  where
    i : w.coefficient ≡ num (whole_fraction z)
    i = as_whole w.coefficient z w.is_coefficient.number (Same-trans w.is_coefficient.same same)

    by : (b : Bool) → is_zero w.coefficient ≡ b → IsCountedWithin (multiple n c) t
    by true e = subst (IsCountedWithin (multiple n c)) (sym (w.zero e ∙ zero_words w.coefficient e)) (zero_counted (multiple n c))
    by false e =
        let x = w.written e in
        let u : x.us ≡ more p none = permuted_one_is p (of_lists (others_in (opened ts)) x.us x.sorted.moved) one_else in
        subst (IsCountedWithin (multiple n c)) (sym (x.is ∙ ap (coefficient_times w.coefficient) u ∙ ap (λ (d : Tree). with_coefficient d (product_tree (more p none))) i))
        (told_within (put_counted z p monic counted) fits)

pair_defined : (f : Tree) (n : ℤ) → is_counted f ≡ true → has_undef (more f (more (num (whole_fraction n)) none)) ≡ false
pair_defined f n c = ap (λ (b : Bool). b || (false || false)) (counted_defined f c)

pub product_counts : (ts : Trees) (t : Tree) → are_reduced ts ≡ true → IsFinished ts t → MultipliesCounts ts t
product_counts ts t r k f n e c =
    written_counts ts t (counts_of f) n (k.written (ap has_undef e ∙ pair_defined f n c))
    (subst (IsParted (counts_of f) n) (sym e) (parted f n (and_parts (is_reduced f) _ (sym (ap are_reduced e) ∙ r)).0 c))

-- no two of them have one base
no_partners : (c : Counts) (n : ℤ) (ts : Trees) → IsParted c n ts → have_partners (others_in (opened ts)) ≡ false
no_partners c n ts h = grind (arith, number_alone)

pub product_joins_none : (ts : Trees) (t : Tree) → are_reduced ts ≡ true → have_partners (others_in (opened ts)) ≡ true → MultipliesCounts ts t
product_joins_none ts t r p f n e c =
    clash (sym p ∙ no_partners (counts_of f) n ts (subst (IsParted (counts_of f) n) (sym e) (parted f n (and_parts (is_reduced f) _ (sym (ap are_reduced e) ∙ r)).0 c)))
