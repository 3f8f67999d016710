-- What holds of each part of the factors of a product holds of each part of what they are gathered to.
use Rattle.product_reduce.proofs.Shared.{arith, ◌≡◌, ℕ, List, Bool, true, false, if◌then◌else◌, refl, sym, subst, Fraction, Tree, num, add, mult, Trees, none, more, AllParts, AllPartsOf, is_number}
use Rattle.product_reduce.proofs.Shared.{value, number_words, IsPowerOf, HasPowersOf, Spans, SpansRoot, SpansTree, SpansTrees, AllPartsOf-append, is_zero, IsWritten, IsWrittenProduct, opened}
use Rattle.product_reduce.proofs.Shared.{numbers_in, others_in, product_of_values, IsCoefficient, coefficient_before, coefficient_times, IsGathered, spans_times, spans_same, tree_spanned}
use Rattle.product_reduce.proofs.Shared.{value_spanned, one_spanned, number_powers, own_powers_of, permuted_parts, product_tree_parts, with_parts, of_lists}
use Rattle.product_reduce.proofs.Forms.{opened_parts, numbers_parts, others_parts}

-- ---- gathered

module _ (P : Tree → Type 0)
    (of_num : (q : Fraction) → P (num q))
    (of_add : (ts : Trees) → P (add ts))
    (of_mult : (ts : Trees) → P (mult ts)) where
  written_parts : (c : Tree) (us : Trees) → AllParts P c → AllPartsOf P us → AllParts P (coefficient_times c us)
  written_parts c us h k = grind (arith, with_parts, product_tree_parts)

  pub before_factors : (c : Tree) (us : Trees) → AllParts P c → AllPartsOf P us → AllParts P (mult (coefficient_before c us))
  before_factors c us h k = grind (arith, AllPartsOf-append)

  pub finished_parts : (ts : Trees) (t : Tree) → ((c : Tree) → IsCoefficient c (opened ts) → AllParts P c) → AllPartsOf P ts → IsWrittenProduct ts t → AllParts P t
  finished_parts ts t f h w = by (is_zero w.coefficient) refl
    where
      of_coefficient : AllParts P w.coefficient
      of_coefficient = f w.coefficient w.is_coefficient

      of_written : IsWritten w.coefficient (others_in (opened ts)) t → AllParts P t
      of_written x =
          subst (AllParts P) (sym x.is)
          (written_parts w.coefficient x.us of_coefficient (permuted_parts P (of_lists (others_in (opened ts)) x.us x.sorted.moved) (others_parts P (opened ts) (opened_parts P ts h))))

      by : (b : Bool) → is_zero w.coefficient ≡ b → AllParts P t
      by true e = subst (AllParts P) (sym (w.zero e)) of_coefficient
      by false e = of_written (w.written e)

  pub gathered_parts : (ts : Trees) (t : Tree) → ((c : Tree) → IsCoefficient c (opened ts) → AllParts P c) → AllPartsOf P ts → IsGathered ts t → AllParts P t
  gathered_parts ts t f h g =
      subst (AllParts P) (sym g.is)
      (before_factors g.coefficient g.others (f g.coefficient g.joinable.coefficient)
      (permuted_parts P (of_lists (others_in (opened ts)) g.others g.sorted.moved) (others_parts P (opened ts) (opened_parts P ts h))))

-- ---- powers: a Number has none, and those of the factors are their own

coefficient_powers : (ts : Trees) (c : Tree) → IsCoefficient c (opened ts) → HasPowersOf ts c
coefficient_powers ts c k = number_powers ts c (number_words c k.number)

pub finished_powers : (ts : Trees) (t : Tree) → IsWrittenProduct ts t → HasPowersOf ts t
finished_powers ts t w = finished_parts (IsPowerOf ts) (λ q. tt) (λ us. tt) (λ us. tt) ts t (coefficient_powers ts) (own_powers_of ts ts (λ p h. h)) w

pub gathered_powers : (ts : Trees) (t : Tree) → IsGathered ts t → HasPowersOf ts t
gathered_powers ts t g = gathered_parts (IsPowerOf ts) (λ q. tt) (λ us. tt) (λ us. tt) ts t (coefficient_powers ts) (own_powers_of ts ts (λ p h. h)) g

-- ---- spans

values_spanned : (gs : List ℕ) (ts : Trees) → SpansTrees gs (numbers_in ts) → Spans gs (product_of_values (numbers_in ts))
values_spanned gs none h = (one_spanned gs, tt)
values_spanned gs (more t ts) h = by (is_number t) refl h (λ k. values_spanned gs ts k)
  where
    by : (b : Bool) → is_number t ≡ b → SpansTrees gs (if b then more t (numbers_in ts) else numbers_in ts) → (SpansTrees gs (numbers_in ts) → Spans gs (product_of_values (numbers_in ts)))
        → Spans gs (product_of_values (if b then more t (numbers_in ts) else numbers_in ts))
    by true e k go = spans_times gs (value t) (product_of_values (numbers_in ts)) (value_spanned gs t (number_words t e) k.0) (go k.1)
    by false e k go = go k

pub coefficient_spanned : (gs : List ℕ) (ts : Trees) (c : Tree) → SpansTrees gs ts → IsCoefficient c ts → SpansTree gs c
coefficient_spanned gs ts c s k =
    let n = number_words c k.number in
    tree_spanned gs c n (spans_same gs c (product_of_values (numbers_in ts)) n k.same (values_spanned gs ts (numbers_parts (SpansRoot gs) ts s)))

pub spans_finished : (gs : List ℕ) (ts : Trees) (t : Tree) → SpansTrees gs ts → IsWrittenProduct ts t → SpansTree gs t
spans_finished gs ts t s w = finished_parts (SpansRoot gs) (λ q. tt) (λ us. tt) (λ us. tt) ts t (λ c k. coefficient_spanned gs (opened ts) c (opened_parts (SpansRoot gs) ts s) k) s w

pub spans_gathered : (gs : List ℕ) (ts : Trees) (t : Tree) → SpansTrees gs ts → IsGathered ts t → SpansTree gs t
spans_gathered gs ts t s g = gathered_parts (SpansRoot gs) (λ q. tt) (λ us. tt) (λ us. tt) ts t (λ c k. coefficient_spanned gs (opened ts) c (opened_parts (SpansRoot gs) ts s) k) s g

pub spans_factors : (gs : List ℕ) (t : Tree) (ts : Trees) → t ≡ mult ts → SpansTree gs t → SpansTrees gs ts
spans_factors gs t ts e s = (subst (SpansTree gs) e s).1
