-- What trees count that change places, and a coefficient before a part.
use Rattle.like_children.proofs.Shared.{◌≡◌, inl, inr, ℕ, ◌+◌, ◌≤◌, max, Bool, true, false, not, if◌then◌else◌, refl, ap, ◌∙◌, sym, arith, true≢false, Permuted, permuted_more, permuted_none}
use Rattle.like_children.proofs.Shared.{permuted_swap, permuted_trans, number_test, IsNumber, is_number, HasForm, NoneIs, counted, counted_among, no_zero, Fraction, is_one_fraction, is_zero_fraction}
use Rattle.like_children.proofs.Shared.{zero_fraction, AllPartsOf, Tree, Trees, add, is_add, more, none, num, monic_sum, monic_parts, IsFactor, not_one_is, EachTerm, each_term, number_term, multiple}
use Rattle.like_children.proofs.Shared.{IsMonic, factors_of, rational_before, spliced, with_coefficient, mapped, rational_times_term, same_parts, appended, at_most_itself, counts_one, HasSamePart}
use Rattle.like_children.proofs.Shared.{HaveSameParts, term_counts}

-- what a tree counts among others
abbrev pub counted_in : Tree → ℕ
counted_in t = if is_number t then 0 else counted t

pub counted_at_most : (t : Tree) → counted_in t ≤ counted t
counted_at_most t = omega (arith, at_most_itself t none)

pub permuted_counted : {ts us : Trees} → Permuted ts us → counted_among us ≡ counted_among ts
permuted_counted permuted_none = refl
permuted_counted (permuted_more {t} k) = ap (λ (n : ℕ). counted_in t + n) (permuted_counted k)
permuted_counted (permuted_swap {t} {u} {ts}) = grind arith
permuted_counted (permuted_trans k l) = permuted_counted l ∙ permuted_counted k

-- ---- a Number is free

pub number_factors : (c : Tree) → IsNumber c → counted_among (factors_of c) ≡ 0
number_factors c h = grind (arith, number_test)

-- ---- it is written before a part, or goes into the terms of a sum

same_part : (q : Fraction) (t : Tree) → IsFactor q → AllPartsOf HasForm (more t none) → is_add t ≡ false → EachTerm (more t none) → HasSamePart (rational_times_term q t) t
same_part q t f h a (inl k, e) = grind (arith, term_counts, number_term, true≢false)
same_part q t f h a (inr n, e) = let m = multiple q f t h.0 n a in record { number = m.no_number ∙ sym n; part = λ e. m.part }

mapped_same : (q : Fraction) (ts : Trees) → IsFactor q → AllPartsOf HasForm ts → NoneIs is_add ts → EachTerm ts → HaveSameParts (mapped (rational_times_term q) ts) ts
mapped_same q none f h a e = tt
mapped_same q (more t ts) f h a e = (same_part q t f (h.0, tt) a.0 (e.0, tt), mapped_same q ts f h.1 a.1 e.1)

part_factors : (p : Tree) → max 1 (counted_among (factors_of p)) ≤ counted p
part_factors p = grind (arith, at_most_itself, counts_one)

spliced_counted : (c p : Tree) → IsNumber c → counted (spliced c p) ≤ counted p
spliced_counted c p h = omega (arith, appended (factors_of c) (factors_of p), number_factors c h, part_factors p)

rational_counted : (q : Fraction) (p : Tree) → IsFactor q → (is_add p ≡ true → IsMonic p) → counted (rational_before q p) ≤ counted p
rational_counted q (add ts) f m =
    let s = monic_sum ts (m refl) in
    omega (arith, same_parts (mapped (rational_times_term q) ts) ts (mapped_same q ts f (monic_parts (add ts) (m refl)).1 s.no_sum (each_term ts s.no_number)))
rational_counted q p f m = spliced_counted (num q) p tt

pub put_counted : (c p : Tree) → IsNumber c → (is_add p ≡ true → IsMonic p) → counted (with_coefficient c p) ≤ counted p
put_counted (num q) p h m = by (is_zero_fraction q) (is_one_fraction q) refl refl
  where
    by : (x y : Bool) → is_zero_fraction q ≡ x → is_one_fraction q ≡ y → counted (if x then num zero_fraction else (if y then p else rational_before q p)) ≤ counted p
    by true y e g = counts_one p
    by false true e g = omega arith
    by false false e g = rational_counted q p (record { not_zero = no_zero q (ap not e); not_one = not_one_is q g }) m
put_counted c p h m = spliced_counted c p h
