-- Exponents that count their bases are collected to exponents that count them no more often.
use Rattle.sum_reduce.proofs.Shared.{◌≡◌, ℕ, ◌≤◌, ◌++◌, [], ℤ, pos, ◌+ℤ◌, ◌*ℤ◌, Bool, true, false, ◌==◌, if◌then◌else◌, refl, sym, ap, ◌∙◌, subst, arith, false≢true, true≢false, first_parts}
use Rattle.sum_reduce.proofs.Shared.{and_parts, and_from, Fraction, times, whole_fraction, zero_fraction, one_fraction, is_zero_fraction, is_one_fraction, one_is, whole_denominator, whole_numerator}
use Rattle.sum_reduce.proofs.Shared.{Tree, num, symbol, undef, add, mult, Trees, none, more, append, count, is_add, has_undef, AllPartsOf, IsNumber, is_number, value, NoneIs, HasForm, part_of}
use Rattle.sum_reduce.proofs.Shared.{product_tree, Same, surd_of, Permuted, permuted_none, permuted_more, permuted_swap, permuted_trans, number_rational, number_words, Same-trans, coefficient_of}
use Rattle.sum_reduce.proofs.Shared.{rational_before, with_coefficient, IsMonic, mapped, rational_times_term, monic_sum, monic_no_number, IsNumberOf, AreLike, sum_of_coefficients, Collects}
use Rattle.sum_reduce.proofs.Shared.{collects_opened, collects_ordered, collects_numbers, collects_like, collects_then, terms_of_loose, opened, terms_of_number, sum_tree, leads_number, written_tree}
use Rattle.sum_reduce.proofs.Shared.{Counts, counts, added, is_counted, are_counted, counts_of, counts_of_all, IsWithin, IsCountedWithin, KeepsSumBounds, whole_plus, whole_times, Same-sym}
use Rattle.sum_reduce.proofs.Shared.{joined_radicand, Same-append, Same-eq, zero_term, of_lists, AreTerms, IsTerm, Rises, length, root, term_of, terms_of}
use Rattle.sum_reduce.proofs.{CollectedCounts.{collected_formed, like_monic}, CountedMultiples.{within_same, within_after, within_both, nothing_within, sum_within, product_within, multiple_added}}
use Rattle.number_forms.proofs.RationalCalls.{rational_value as num_value}
use Rattle.tree_bits.specs.Exponents.{multiple}
pub use Rattle.calc_measures.proofs.LiteralValues.{whole_of}

-- ---- lists of exponents

-- they count, and no more often than c
pub record AreCounted (ts : Trees) (c : Counts) : Type 0 where
  pub all : are_counted ts ≡ true
  pub within : IsWithin (counts_of_all ts) c

none_counted : (c : Counts) → AreCounted none c
none_counted c = record { all = refl; within = nothing_within c }

more_counted : {t : Tree} {ts : Trees} {c d : Counts} → IsCountedWithin c t → AreCounted ts d → AreCounted (more t ts) (added c d)
more_counted a b = record { all = and_from _ _ a.counted b.all; within = within_both a.within b.within }

only_counted : {t : Tree} {c : Counts} → IsCountedWithin c t → AreCounted (more t none) c
only_counted a = record { all = and_from _ _ a.counted refl; within = within_after (record { up = omega arith; down = omega arith }) a.within }

counted_after : {ts : Trees} {c d : Counts} → AreCounted ts c → IsWithin c d → AreCounted ts d
counted_after a w = record { all = a.all; within = within_after a.within w }

append_counted : (ts us : Trees) {c d : Counts} → AreCounted ts c → AreCounted us d → AreCounted (append ts us) (added c d)
append_counted none us a b = record { all = b.all; within = within_after b.within (record { up = omega arith; down = omega arith }) }
append_counted (more t ts) us a b =
    let (x, y) = and_parts (is_counted t) (are_counted ts) a.all in
    let rest = append_counted ts us (record { all = y; within = within_same (counts_of_all ts) }) b in
    let all = more_counted (record { counted = x; within = within_same (counts_of t) }) rest in
    record { all = all.all; within = within_after all.within (record { up = omega (arith, a.within.up); down = omega (arith, a.within.down) }) }

-- ---- opened, and in another order

loose_counted : (t : Tree) → is_counted t ≡ true → AreCounted (terms_of_loose t) (counts_of t)
loose_counted (add ts) h = grind (arith, only_counted, within_same)
loose_counted t h = only_counted (record { counted = h; within = within_same (counts_of t) })

opened_counted : (ts : Trees) → are_counted ts ≡ true → AreCounted (opened ts) (counts_of_all ts)
opened_counted none h = none_counted (counts 0 0)
opened_counted (more t ts) h =
    let (a, b) = and_parts (is_counted t) (are_counted ts) h in
    append_counted (terms_of_loose t) (opened ts) (loose_counted t a) (opened_counted ts b)

permuted_counted : {ts us : Trees} → Permuted ts us → are_counted ts ≡ true → AreCounted us (counts_of_all ts)
permuted_counted permuted_none h = none_counted (counts 0 0)
permuted_counted (permuted_more {t} {ts} k) h =
    let (a, b) = and_parts (is_counted t) (are_counted ts) h in
    more_counted (record { counted = a; within = within_same (counts_of t) }) (permuted_counted k b)
permuted_counted (permuted_swap {t} {u} {ts}) h = grind (arith, and_from)
permuted_counted (permuted_trans k l) h = let a = permuted_counted k h in counted_after (permuted_counted l a.all) a.within

-- ---- whole numbers

pub one_whole : one_fraction ≡ whole_fraction (pos 1)
unfolding one_fraction
one_whole = refl

pub zero_whole : zero_fraction ≡ whole_fraction (pos 0)
unfolding zero_fraction
zero_whole = refl

whole_test : (z : ℤ) → ((whole_fraction z).den == 1) ≡ true
whole_test z = ap (λ (n : ℕ). n == 1) (whole_denominator z)

-- the whole number z as an exponent
pub num_counted : (z : ℤ) → IsCountedWithin (multiple z (counts 1 0)) (num (whole_fraction z))
num_counted z = record { counted = whole_test z; within = subst (λ (c : Counts). IsWithin c (multiple z (counts 1 0))) (ap (λ (y : ℤ). multiple y (counts 1 0)) (sym (whole_numerator z))) (within_same (multiple z (counts 1 0))) }

-- ---- two Numbers

pub record IsWhole (t : Tree) : Type 0 where
  pub z : ℤ
  pub is : t ≡ num (whole_fraction z)

-- of the terms of a Number, a rational alone counts, and a Number has one rational at most
counted_term : (t : Tree) → IsTerm t → is_counted t ≡ true → (term_of t).radicand ≡ 1
counted_term (num q) h k = refl
counted_term (mult (more (num q) (more (root (num r)) none))) h k = absurd (false≢true (and_parts (q.den == 1) false k).1)
counted_term (root (num r)) h k = absurd (false≢true k)
counted_term t h k = absurd h

no_counted_sum : (ts : Trees) → 2 ≤ length (terms_of ts) → AreTerms ts → Rises (terms_of ts) → are_counted ts ≡ true → ⊥
no_counted_sum none l h r k = absurd (omega (arith, l))
no_counted_sum (more t none) l h r k = absurd (omega (arith, l))
no_counted_sum (more t (more u ts)) l h r k =
    let (x, y) = and_parts (is_counted t) (are_counted (more u ts)) k in
    let z = (and_parts (is_counted u) (are_counted ts) y).0 in
    omega (arith, counted_term t h.0 x, counted_term u h.1.0 z, r.0.0)

pub whole_number : (t : Tree) → IsNumber t → is_counted t ≡ true → IsWhole t
whole_number (num q) h k = record { z = q.num; is = ap num (whole_of q k) }
whole_number (add ts) h k = absurd (no_counted_sum ts h.0 h.1 h.2 k)
whole_number (mult (more (num q) (more (root (num r)) none))) h k = absurd (false≢true (and_parts (q.den == 1) false k).1)
whole_number (root (num r)) h k = absurd (false≢true k)
whole_number t h k = absurd h

-- what is the whole number z
pub as_whole : (n : Tree) (z : ℤ) → is_number n ≡ true → Same (value n) (surd_of (whole_fraction z)) → n ≡ num (whole_fraction z)
as_whole n z h w = number_rational n (whole_fraction z) (number_words n h) w

whole_counts : (t : Tree) (z : ℤ) → t ≡ num (whole_fraction z) → counts_of t ≡ multiple z (counts 1 0)
whole_counts t z e = ap counts_of e ∙ ap (λ (y : ℤ). multiple y (counts 1 0)) (whole_numerator z)

numbers_counted : (a b n : Tree) → is_number a ≡ true → is_number b ≡ true → is_counted a ≡ true → is_counted b ≡ true → IsNumberOf (value a ++ value b) n
    → IsCountedWithin (added (counts_of a) (counts_of b)) n
numbers_counted a b n x y h k w =
    let p = whole_number a (number_words a x) h in
    let q = whole_number b (number_words b y) k in
    let sum : Same (value a ++ value b) (surd_of (whole_fraction (p.z +ℤ q.z))) =
    Same-trans (Same-append (subst (λ (t : Tree). Same (value t) (surd_of (whole_fraction p.z))) (sym p.is) (num_value (whole_fraction p.z)))
    (subst (λ (t : Tree). Same (value t) (surd_of (whole_fraction q.z))) (sym q.is) (num_value (whole_fraction q.z))))
    (Same-trans (joined_radicand (whole_fraction p.z) (whole_fraction q.z) 1) (Same-eq (ap surd_of (whole_plus p.z q.z)))) in
    let is : n ≡ num (whole_fraction (p.z +ℤ q.z)) = as_whole n (p.z +ℤ q.z) w.number (Same-trans w.worth sum) in
    let c = num_counted (p.z +ℤ q.z) in
    subst (λ (t : Tree). IsCountedWithin (added (counts_of a) (counts_of b)) t) (sym is) (record {
      counted = c.counted;
      within =
          within_after c.within
          (subst (IsWithin (multiple (p.z +ℤ q.z) (counts 1 0))) (λ i. added (sym (whole_counts a p.z p.is) i) (sym (whole_counts b q.z q.is) i)) (sum_within p.z q.z (counts 1 0)));
    })

pub zero_counted : (c : Counts) → IsCountedWithin c (num zero_fraction)
zero_counted c =
    let n = num_counted (pos 0) in
    subst (λ (x : Fraction). IsCountedWithin c (num x)) (sym zero_whole) (record { counted = n.counted; within = within_after n.within (record { up = omega arith; down = omega arith }) })

-- ---- terms with one part

-- a whole number times a part that counts
record IsWholeTerm (t : Tree) : Type 0 where
  z : ℤ
  coefficient : coefficient_of t ≡ num (whole_fraction z)
  part : is_counted (part_of t) ≡ true
  within : IsWithin (multiple z (counts_of (part_of t))) (counts_of t)

at_least_once : (c : Counts) → IsWithin c (multiple (pos 1) c)
at_least_once c = record { up = omega arith; down = omega arith }

multiple_term : (q : Fraction) (w : Tree) → is_counted (mult (more (num q) (more w none))) ≡ true → IsWholeTerm (mult (more (num q) (more w none)))
multiple_term q w h = grind (arith, whole_of)

whole_term : (t : Tree) → is_number t ≡ false → is_counted t ≡ true → IsWholeTerm t
unfolding is_number
whole_term t n h = grind (arith, one_whole, multiple_term)

-- their coefficients add up to a whole number
record IsWholeSum (us : Trees) (p : Tree) : Type 0 where
  z : ℤ
  sum : Same (sum_of_coefficients us) (surd_of (whole_fraction z))
  within : IsWithin (multiple z (counts_of p)) (counts_of_all us)

whole_sum : (us : Trees) (p : Tree) → AreLike p us → are_counted us ≡ true → IsWholeSum us p
whole_sum none p a h = record { z = pos 0; sum = subst (λ (x : Fraction). Same [] (surd_of x)) zero_whole (Same-sym (zero_term 1)); within = record { up = omega arith; down = omega arith } }
whole_sum (more t us) p a h =
    let (x, y) = and_parts (is_counted t) (are_counted us) h in
    let u = whole_term t a.0 x in
    let r = whole_sum us p a.2 y in
    record {
      z = u.z +ℤ r.z;
      sum =
          Same-trans (Same-append (subst (λ (c : Tree). Same (value c) (surd_of (whole_fraction u.z))) (sym u.coefficient) (num_value (whole_fraction u.z))) r.sum)
          (Same-trans (joined_radicand (whole_fraction u.z) (whole_fraction r.z) 1) (Same-eq (ap surd_of (whole_plus u.z r.z))));
      within = within_after (sum_within u.z r.z (counts_of p)) (within_both (subst (λ (w : Tree). IsWithin (multiple u.z (counts_of w)) (counts_of t)) a.1 u.within) r.within);
    }

like_part : (us : Trees) (p : Tree) → 2 ≤ count us → AreLike p us → are_counted us ≡ true → is_counted p ≡ true
like_part none p l a h = absurd (omega arith)
like_part (more t us) p l a h = subst (λ (w : Tree). is_counted w ≡ true) a.1 (whole_term t a.0 (and_parts (is_counted t) (are_counted us) h).0).part

-- ---- a whole number before a part

-- the whole numbers whose product is 1
one_product : (z : ℤ) → is_one_fraction (whole_fraction z) ≡ true → z ≡ pos 1
one_product z h = sym (whole_numerator z) ∙ ap (λ (q : Fraction). q.num) (one_is (whole_fraction z) h ∙ one_whole) ∙ whole_numerator (pos 1)

before_counted : (z : ℤ) (w : Tree) → is_counted w ≡ true → IsCountedWithin (multiple z (counts_of w)) (mult (more (num (whole_fraction z)) (more w none)))
before_counted z w h = grind (arith, whole_test, whole_numerator)

module _ (z : ℤ) where
  product_is : (c : Fraction) → (c.den == 1) ≡ true → times (whole_fraction z) c ≡ whole_fraction (z *ℤ c.num)
  product_is c h = ap (times (whole_fraction z)) (whole_of c h) ∙ whole_times z c.num

  -- into a term of a sum
  times_rational : (c : Fraction) → is_counted (num c) ≡ true → IsCountedWithin (multiple z (counts_of (num c))) (num (times (whole_fraction z) c))
  times_rational c h =
      let n = num_counted (z *ℤ c.num) in
      subst (λ (x : Fraction). IsCountedWithin (multiple z (counts_of (num c))) (num x)) (sym (product_is c h)) (record {
        counted =
            n.counted;
        within = within_after n.within (product_within z c.num (counts 1 0));
      })

  times_product : (c : Fraction) (w : Tree) → is_counted (mult (more (num c) (more w none))) ≡ true
      → IsCountedWithin (multiple z (multiple c.num (counts_of w))) (rational_times_term (whole_fraction z) (mult (more (num c) (more w none))))
  times_product c w h = by (is_one_fraction (times (whole_fraction z) c)) refl
    where
      x : (c.den == 1) ≡ true
      x = (and_parts (c.den == 1) (is_counted w) h).0

      y : is_counted w ≡ true
      y = (and_parts (c.den == 1) (is_counted w) h).1

      by : (b : Bool) → is_one_fraction (times (whole_fraction z) c) ≡ b
          → IsCountedWithin (multiple z (multiple c.num (counts_of w))) (if b then product_tree (more w none) else mult (more (num (times (whole_fraction z) c)) (more w none)))
      by true e =
          let one : z *ℤ c.num ≡ pos 1 = one_product (z *ℤ c.num) (ap is_one_fraction (sym (product_is c x)) ∙ e) in
          record {
            counted = y;
            within = within_after (subst (λ (n : ℤ). IsWithin (counts_of w) (multiple n (counts_of w))) (sym one) (at_least_once (counts_of w))) (product_within z c.num (counts_of w));
          }
      by false e =
          let a = before_counted (z *ℤ c.num) w y in
          subst (λ (r : Fraction). IsCountedWithin (multiple z (multiple c.num (counts_of w))) (mult (more (num r) (more w none)))) (sym (product_is c x))
          (record { counted = a.counted; within = within_after a.within (product_within z c.num (counts_of w)) })

  times_counted : (t : Tree) → is_add t ≡ false → is_counted t ≡ true → IsCountedWithin (multiple z (counts_of t)) (rational_times_term (whole_fraction z) t)
  times_counted (num c) s h = times_rational c h
  times_counted (symbol x) s h = before_counted z (symbol x) h
  times_counted (add ts) s h = absurd (true≢false s)
  times_counted (mult (more (num c) (more w none))) s h = times_product c w h
  times_counted t s h = absurd (false≢true h)

  all_times_counted : (ts : Trees) → NoneIs is_add ts → are_counted ts ≡ true → AreCounted (mapped (rational_times_term (whole_fraction z)) ts) (multiple z (counts_of_all ts))
  all_times_counted none s h = none_counted (multiple z (counts 0 0))
  all_times_counted (more t ts) s h =
      let (a, b) = and_parts (is_counted t) (are_counted ts) h in
      counted_after (more_counted (times_counted t s.0 a) (all_times_counted ts s.1 b)) (multiple_added z (counts_of t) (counts_of_all ts))

  part_counted : (p : Tree) → IsMonic p → is_counted p ≡ true → IsCountedWithin (multiple z (counts_of p)) (rational_before (whole_fraction z) p)
  unfolding is_number
  part_counted (num c) m h = absurd (true≢false (monic_no_number (num c) m))
  part_counted (symbol x) m h = before_counted z (symbol x) h
  part_counted (add ts) m h = let a = all_times_counted ts (monic_sum ts m).no_sum h in record { counted = a.all; within = a.within }
  part_counted (mult (more (num c) ts)) m h = absurd (true≢false m.no_coefficient)
  part_counted p m h = absurd (false≢true h)

  pub put_counted : (p : Tree) → IsMonic p → is_counted p ≡ true → IsCountedWithin (multiple z (counts_of p)) (with_coefficient (num (whole_fraction z)) p)
  put_counted p m h = by (is_zero_fraction (whole_fraction z)) (is_one_fraction (whole_fraction z)) refl
    where
      by : (a b : Bool) → is_one_fraction (whole_fraction z) ≡ b
          → IsCountedWithin (multiple z (counts_of p)) (if a then num zero_fraction else (if b then p else rational_before (whole_fraction z) p))
      by true b e = zero_counted (multiple z (counts_of p))
      by false true e = record { counted = h; within = subst (λ (n : ℤ). IsWithin (counts_of p) (multiple n (counts_of p))) (sym (one_product z e)) (at_least_once (counts_of p)) }
      by false false e = part_counted p m h

like_counted : (us : Trees) (c p : Tree) → 2 ≤ count us → AreLike p us → AllPartsOf HasForm us → are_counted us ≡ true → IsNumberOf (sum_of_coefficients us) c
    → IsCountedWithin (counts_of_all us) (with_coefficient c p)
like_counted us c p l a f h w =
    let x = whole_sum us p a h in
    let is : c ≡ num (whole_fraction x.z) = as_whole c x.z w.number (Same-trans w.worth x.sum) in
    let k = put_counted x.z p (like_monic us p l a f) (like_part us p l a h) in
    subst (λ (d : Tree). IsCountedWithin (counts_of_all us) (with_coefficient d p)) (sym is) (record { counted = k.counted; within = within_after k.within x.within })

-- ---- collected

parts_of : (ts us : Trees) → are_counted (append ts us) ≡ true → (are_counted ts ≡ true) × (are_counted us ≡ true)
parts_of none us h = (refl, h)
parts_of (more t ts) us h = grind (arith, parts_of ts us)

both_counts : (ts us : Trees) → IsWithin (added (counts_of_all ts) (counts_of_all us)) (counts_of_all (append ts us))
both_counts none us = record { up = omega arith; down = omega arith }
both_counts (more t ts) us = let a = both_counts ts us in record { up = omega (arith, a.up); down = omega (arith, a.down) }

pub exponents_collected : {ts us : Trees} → Collects ts us → AllPartsOf HasForm ts → are_counted ts ≡ true → AreCounted us (counts_of_all ts)
exponents_collected (collects_opened {ts}) f h = opened_counted ts h
exponents_collected (collects_ordered {ts} {us} k) f h = permuted_counted (of_lists ts us k) h
exponents_collected (collects_numbers {ts} {a} {b} {n} x y k) f h =
    let (p, q) = and_parts (is_counted a) (are_counted (more b ts)) h in
    let (r, s) = and_parts (is_counted b) (are_counted ts) q in
    counted_after (more_counted (numbers_counted a b n x y p r k) (record { all = s; within = within_same (counts_of_all ts) })) (record { up = omega arith; down = omega arith })
exponents_collected (collects_like {ts} us c p l a k) f h =
    let (x, y) = parts_of us ts h in
    counted_after (more_counted (like_counted us c p l a (first_parts HasForm us ts f) x k) (record { all = y; within = within_same (counts_of_all ts) })) (both_counts us ts)
exponents_collected (collects_then k l) f h = let a = exponents_collected k f h in counted_after (exponents_collected l (collected_formed k f) a.all) a.within

-- ---- the tree of terms

number_terms : (t : Tree) → is_counted t ≡ true → AreCounted (terms_of_number t) (counts_of t)
number_terms t h = grind arith

tree_of_terms : (ts : Trees) (c : Counts) → AreCounted ts c → IsCountedWithin c (sum_tree ts)
tree_of_terms none c a = zero_counted c
tree_of_terms (more t none) c a = record { counted = (and_parts (is_counted t) true a.all).0; within = within_after (record { up = omega arith; down = omega arith }) a.within }
tree_of_terms (more t (more u ts)) c a = record { counted = a.all; within = a.within }

pub written_counts : (ts : Trees) (c : Counts) → AreCounted ts c → IsCountedWithin c (written_tree ts)
written_counts none c a = tree_of_terms none c a
written_counts (more t ts) c a = by (leads_number (more t ts))
  where
    by : (b : Bool) → IsCountedWithin c (if b then sum_tree (append (terms_of_number t) ts) else sum_tree (more t ts))
    by true =
        let (x, y) = and_parts (is_counted t) (are_counted ts) a.all in
        tree_of_terms (append (terms_of_number t) ts) c
        (counted_after (append_counted (terms_of_number t) ts (number_terms t x) (record { all = y; within = within_same (counts_of_all ts) })) a.within)
    by false = tree_of_terms (more t ts) c a

-- ---- exponents that count are defined

pub counted_defined : (ts : Trees) → are_counted ts ≡ true → has_undef ts ≡ false
counted_defined none h = refl
counted_defined (more t ts) h = grind (arith, counted_defined ts)

-- what has an Undef term is Undef
pub undef_bounds : (ts : Trees) (t : Tree) → has_undef ts ≡ true → t ≡ undef → KeepsSumBounds ts t
undef_bounds ts t u e = subst (KeepsSumBounds ts) (sym e) (record {
  room = record { counts = omega arith; powers = tt; spanned = λ gs s. tt };
  held = λ h l d k. absurd (false≢true (sym d ∙ u));
  counts = λ k. absurd (false≢true (sym (counted_defined ts k) ∙ u));
})
