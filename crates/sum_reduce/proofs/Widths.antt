-- The width of terms.
use Rattle.std.proofs.Common.{suc, ◌+◌, ◌≤◌, ◌≡◌, ◌≢◌, ◌⊎◌, inl, inr, Bool, true, false, if◌then◌else◌, refl, sym, ap, ◌∙◌, subst, arith}
use Rattle.sum_reduce.proofs.Shared.{Fraction, zero_fraction, is_zero_fraction, is_one_fraction, is_number, IsNumber, IsTerm, split_product, product_tree, part_of, NoneIs, HasForm, Tree, num, add}
use Rattle.sum_reduce.proofs.Shared.{mult, root, Trees, none, more, append, nodes, nodes_of, is_add, AllParts, AllPartsOf, Permuted, permuted_none, permuted_more, permuted_swap, permuted_trans}
use Rattle.sum_reduce.proofs.Shared.{number_test, IsMonic, with_coefficient, rational_before, mapped, rational_times_term, rational_times_sum, put, zero_or_not, monic_sum, monic_no_number}
use Rattle.sum_reduce.proofs.{Shared.{monic_parts, number_of_term, IsFactor, scaled, not_one_is, EachTerm, each_term, multiple, width, widths}, Splits.{split_cases}}
pub use Rattle.calc_terms.proofs.SmallLaws.{one_node as some_node}
use Rattle.calc_terms.proofs.SmallLaws.{zero_is_zero as nothing_is}

-- ---- one term

pub width_number : (t : Tree) → is_number t ≡ true → width t ≡ 1
width_number t h = grind arith

pub width_other : (t : Tree) → is_number t ≡ false → is_add t ≡ false → width t ≡ nodes (part_of t)
width_other t h k = grind arith

pub width_sum : (ts : Trees) → is_number (add ts) ≡ false → width (add ts) ≡ widths ts
width_sum ts h = ap (λ (b : Bool). if b then 1 else widths ts) h

-- ---- lists

pub widths-append : (ts us : Trees) → widths (append ts us) ≡ widths ts + widths us
widths-append none us = omega arith
widths-append (more t ts) us = omega (arith, widths-append ts us)

pub widths_permuted : {ts us : Trees} → Permuted ts us → widths ts ≡ widths us
widths_permuted permuted_none = refl
widths_permuted (permuted_more h) = omega (arith, widths_permuted h)
widths_permuted permuted_swap = omega arith
widths_permuted (permuted_trans h k) = widths_permuted h ∙ widths_permuted k

-- ---- the nodes of a part

nodes_of_factors : (ts : Trees) → nodes_of (split_product ts).factors ≤ nodes_of ts
nodes_of_factors ts = split_cases (λ ts c us. nodes_of us ≤ nodes_of ts) (λ ts. omega arith) (λ t ts n. omega arith) (λ q r ts e. omega arith) ts

nodes_of_product : (ts : Trees) → nodes (product_tree ts) ≤ suc (nodes_of ts)
nodes_of_product ts = grind arith

nodes_of_part : (t : Tree) → nodes (part_of t) ≤ nodes t
nodes_of_part t = grind (arith, nodes_of_factors, nodes_of_product)

-- ---- a coefficient before a part

module _ (q : Fraction) (f : IsFactor q) where
  number_multiple : (t : Tree) → IsTerm t → IsTerm (rational_times_term q t)
  number_multiple (num c) h = (scaled q (num c) f h).one
  number_multiple (root (num r)) h = (scaled q (root (num r)) f h).one
  number_multiple (mult (more (num c) (more (root (num r)) none))) h = (scaled q (mult (more (num c) (more (root (num r)) none))) f h).one
  number_multiple t h = absurd h

  width_multiple : (t : Tree) → AllParts HasForm t → is_add t ≡ false → IsTerm t ⊎ (is_number t ≡ false) → width (rational_times_term q t) ≤ nodes t
  width_multiple t h s (inl k) = grind (arith, width_number, number_test, number_of_term, number_multiple, some_node)
  width_multiple t h s (inr n) =
      let m = multiple q f t h n s in
      omega (arith, width_other (rational_times_term q t) m.no_number m.no_sum, ap nodes m.part, nodes_of_part t)

  widths_multiple : (ts : Trees) → AllPartsOf HasForm ts → NoneIs is_add ts → EachTerm ts → widths (mapped (rational_times_term q) ts) ≤ nodes_of ts
  widths_multiple none h s k = omega arith
  widths_multiple (more t ts) h s k = omega (arith, width_multiple t h.0 s.0 k.0, widths_multiple ts h.1 s.1 k.1)

  sum_width : (ts : Trees) → IsMonic (add ts) → is_number (rational_times_sum q ts) ≡ false → width (rational_times_sum q ts) ≤ nodes (add ts)
  sum_width ts m n =
      let s = monic_sum ts m in
      omega (arith, width_sum (mapped (rational_times_term q) ts) n, widths_multiple ts (monic_parts (add ts) m).1 s.no_sum (each_term ts s.no_number))

-- a reduced sum has at most the width of its nodes
own_width : (t : Tree) → IsTerm t ⊎ (is_number t ≡ false) → is_add t ≡ false → width t ≤ nodes t
own_width t h s = grind (arith, width_number, number_test, number_of_term, some_node, width_other, nodes_of_part)

own_widths : (ts : Trees) → NoneIs is_add ts → EachTerm ts → widths ts ≤ nodes_of ts
own_widths none s k = omega arith
own_widths (more t ts) s k = omega (arith, own_width t k.0 s.0, own_widths ts s.1 k.1)

part_width : (ts : Trees) → IsMonic (add ts) → width (add ts) ≤ nodes (add ts)
part_width ts m = let s = monic_sum ts m in omega (arith, width_sum ts (monic_no_number (add ts) m), own_widths ts s.no_sum (each_term ts s.no_number))

sums : (c p : Tree) → c ≢ num zero_fraction → IsMonic p → is_add (with_coefficient c p) ≡ true → is_number (with_coefficient c p) ≡ false → width (with_coefficient c p) ≤ nodes p
sums (num q) (add ts) z m s n = by (is_zero_fraction q) (is_one_fraction q) refl refl s n
  where
    by : (a b : Bool) → is_zero_fraction q ≡ a → is_one_fraction q ≡ b → is_add (if a then num zero_fraction else (if b then add ts else rational_before q (add ts))) ≡ true
        → is_number (if a then num zero_fraction else (if b then add ts else rational_before q (add ts))) ≡ false
        → width (if a then num zero_fraction else (if b then add ts else rational_before q (add ts))) ≤ nodes (add ts)
    by true b e g s n = cc
    by false true e g s n = part_width ts m
    by false false e g s n = sum_width q (record { not_zero = λ x. z (ap num x); not_one = not_one_is q g }) ts m n
sums (num q) p z m s n = grind arith
sums c p z m s n = cc

-- a coefficient before a part is no wider than the nodes of the part
pub coefficient_width : (c p : Tree) → IsNumber c → IsMonic p → width (with_coefficient c p) ≤ nodes p
coefficient_width c p h m = elim (zero_or_not c) [
  | inl e ↦ subst (λ (x : Tree). width (with_coefficient x p) ≤ nodes p) (sym e) zero_width
  | inr z ↦ by z (is_add (with_coefficient c p)) refl
]
  where
    zero_width : width (with_coefficient (num zero_fraction) p) ≤ nodes p
    zero_width =
        let zero = ap (λ (b : Bool). width (if b then num zero_fraction else (if is_one_fraction zero_fraction then p else rational_before zero_fraction p))) nothing_is in
        omega (arith, zero, width_number (num zero_fraction) (number_test (num zero_fraction) tt), some_node p)

    by : c ≢ num zero_fraction → (b : Bool) → is_add (with_coefficient c p) ≡ b → width (with_coefficient c p) ≤ nodes p
    by z false e = let x = put c p h z m in omega (arith, width_other (with_coefficient c p) x.no_number e, ap nodes (x.part e))
    by z true e = sums c p z m e (put c p h z m).no_number
