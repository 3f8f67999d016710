-- The factors of a product are gathered to what counts no more.
use Rattle.product_reduce.proofs.Shared.{◌≡◌, ℕ, ◌≤◌, max, true, false, refl, sym, ap, subst, arith, Tree, mult, Trees, none, more, append, has_undef, IsNumber, is_number, is_whole_num, base_of}
use Rattle.product_reduce.proofs.Shared.{NoneIs, are_reduced, Permuted, permuted_none, permuted_more, number_words, counted, counted_among, factors_of, IsMonic, factors_monic, IsSorting, is_zero}
use Rattle.product_reduce.proofs.Shared.{children_of, numbers_among, product_count, appended, flat_product, number_counts_one, AreOthers, IsWritten, IsWrittenProduct, opened, others_in}
use Rattle.product_reduce.proofs.{Shared.{coefficient_before, coefficient_times, IsGathered, number_factors, permuted_counted, put_counted, none_permuted, of_lists}, Forms.{others_no_numbers}}
use Rattle.product_reduce.proofs.{Gathered.{others_permuted}, LastSteps.{sorted_factors}, Stepped.{others_are}}
use Rattle.coefficients.proofs.Rooms.{no_numbers}

-- ---- factors that are opened, parted, and change places

factors_counted : (t : Tree) (ts : Trees) → counted_among (append (factors_of t) ts) ≤ counted_among (more t ts)
factors_counted t ts = grind (arith, flat_product)

pub opened_counted : (ts : Trees) → counted_among (opened ts) ≤ counted_among ts
opened_counted none = omega arith
opened_counted (more t ts) = omega (arith, factors_counted t (opened ts), opened_counted ts)

pub others_counted : (ts : Trees) → counted_among (others_in ts) ≡ counted_among ts
others_counted none = refl
others_counted (more t ts) = grind (arith, others_counted ts)

-- the others, in any order, count no more than all factors
all_counted : (ts us : Trees) → Permuted (others_in (opened ts)) us → counted_among us ≤ counted_among ts
all_counted ts us p = omega (arith, permuted_counted p, others_counted (opened ts), opened_counted ts)

-- ---- a coefficient is free

pub before_counted : (c : Tree) (us : Trees) → is_number c ≡ true → counted_among (coefficient_before c us) ≤ counted_among us
before_counted c us h = grind (arith, appended, number_factors, number_words)

-- ---- gathered

number_counted : (c : Tree) (n : ℕ) → is_number c ≡ true → counted c ≤ max 1 n
number_counted c n h = omega (arith, number_counts_one c h)

pub single_monic : (t : Tree) → AreOthers (more t none) → IsMonic t
single_monic t o = factors_monic (more t none) (sorted_factors (more t none) (more t none) o (permuted_more permuted_none) tt (omega arith))

written_counted : (c : Tree) (us : Trees) → is_number c ≡ true → AreOthers us → counted (coefficient_times c us) ≤ max 1 (counted_among us)
written_counted c us h o = grind (arith, number_counted, put_counted, number_words)

pub finished_counted : (ts : Trees) (t : Tree) → are_reduced ts ≡ true → has_undef ts ≡ false → IsWrittenProduct ts t → counted t ≤ counted (mult ts)
finished_counted ts t r d w = grind (arith, w.zero, λ (e : is_zero w.coefficient ≡ false). of_written (w.written e), number_counts_one c number)
  where
    c : Tree
    c = w.coefficient

    number : is_number c ≡ true
    number = w.is_coefficient.number

    of_written : IsWritten c (others_in (opened ts)) t → counted t ≤ counted (mult ts)
    of_written x =
        let m = of_lists (others_in (opened ts)) x.us x.sorted.moved in
        omega (arith, ap counted x.is, written_counted c x.us number (others_permuted m (others_are ts r d)), all_counted ts x.us m)

pub gathered_counted : (ts : Trees) (t : Tree) → IsGathered ts t → counted_among (children_of t) ≤ counted_among ts
gathered_counted ts t g =
    let c : is_number g.coefficient ≡ true = g.joinable.coefficient.number in
    subst (λ (x : Tree). counted_among (children_of x) ≤ counted_among ts) (sym g.is)
    (omega (arith, before_counted g.coefficient g.others c, all_counted ts g.others (of_lists (others_in (opened ts)) g.others g.sorted.moved)))

-- ---- few of the factors are Numbers

few_before : (c : Tree) (us : Trees) → IsNumber c → NoneIs is_number us → numbers_among (coefficient_before c us) ≤ 2
few_before c us h n = grind (arith, no_numbers)

pub gathered_few : (ts : Trees) (t : Tree) → IsGathered ts t → numbers_among (children_of t) ≤ 2
gathered_few ts t g =
    subst (λ (x : Tree). numbers_among (children_of x) ≤ 2) (sym g.is)
    (few_before g.coefficient g.others (number_words g.coefficient g.joinable.coefficient.number)
    (none_permuted is_number (of_lists (others_in (opened ts)) g.others g.sorted.moved) (others_no_numbers (opened ts))))

-- ---- the count of other factors in order, and of a product

pub sorted_counted : (ts us : Trees) → IsSorting 0 base_of ts us → counted (mult us) ≡ counted (mult ts)
sorted_counted ts us s = ap (max 1) (permuted_counted (of_lists ts us s.moved))

pub others_at_most : (ts : Trees) → counted (mult (others_in (opened ts))) ≤ product_count ts
others_at_most ts = omega (arith, others_counted (opened ts), opened_counted ts)

-- a whole number is a Number
pub whole_number : (e : Tree) → is_whole_num e ≡ true → is_number e ≡ true
unfolding is_number
whole_number e h = grind arith
