-- A product whose factors are opened and whose Numbers are one coefficient keeps its meanings.
use Rattle.product_reduce.proofs.Shared.{arith, ◌≡◌, Bool, true, false, refl, if◌then◌else◌, factors_of, one_fraction, is_number, is_num_one, Same, Surd, Tree, num, mult, Trees, none, more, append}
use Rattle.product_reduce.proofs.Shared.{one_is, KeepsMeanings, KeepsMeanings-refl, KeepsMeanings-trans, KeepsMeanings-product_more, KeepsMeanings-product_append, nested_product, permuted_product}
use Rattle.product_reduce.proofs.Shared.{one_factor_of_product, product_parts, none_product, number_words, number_value, value_means, Same-trans, Same-sym, Same-surd_times, numbers_first, opened}
use Rattle.product_reduce.proofs.Shared.{numbers_in, others_in, product_of_values, IsCoefficient, coefficient_before, Assignment, IsAssignment, Means}
use Rattle.calc_algebra.proofs.MeaningRewrites.{flat_product}

-- ---- products in a product

pub first_opened : (t : Tree) (ts : Trees) → KeepsMeanings (mult (more t ts)) (mult (append (factors_of t) ts))
first_opened t ts = grind (arith, flat_product, KeepsMeanings-refl)

pub opened_keeps : (ts : Trees) → KeepsMeanings (mult ts) (mult (opened ts))
opened_keeps none = KeepsMeanings-refl (mult none)
opened_keeps (more t ts) = KeepsMeanings-trans (first_opened t ts) (KeepsMeanings-product_append (KeepsMeanings-refl (mult (factors_of t))) (opened_keeps ts))

-- ---- Numbers among the factors

values_multiplied : (f : Assignment) → IsAssignment f → (ts : Trees) (v : Surd) → Means (mult (numbers_in ts)) f v → Same v (product_of_values (numbers_in ts))
values_multiplied f once none v m = none_product f v m
values_multiplied f once (more t ts) v m = by (values_multiplied f once ts) (is_number t) refl m
  where
    by : ((u : Surd) → Means (mult (numbers_in ts)) f u → Same u (product_of_values (numbers_in ts))) → (k : Bool) → is_number t ≡ k
        → Means (mult (if k then more t (numbers_in ts) else numbers_in ts)) f v → Same v (product_of_values (if k then more t (numbers_in ts) else numbers_in ts))
    by go true e n =
        let p = product_parts f t (numbers_in ts) v n in
        Same-trans p.same (Same-surd_times (number_value f once t p.first (number_words t e) p.first_means) (go p.rest p.rest_means))
    by go false e n = go v n

numbers_multiplied : (c : Tree) (ts : Trees) → IsCoefficient c ts → KeepsMeanings (mult (numbers_in ts)) c
numbers_multiplied c ts h = record { means = λ f once v m. value_means f c v (number_words c h.number) (Same-trans (values_multiplied f once ts v m) (Same-sym h.same)) }

pub collected : (c : Tree) (ts : Trees) → IsCoefficient c ts → KeepsMeanings (mult ts) (mult (more c (others_in ts)))
collected c ts h =
    KeepsMeanings-trans (permuted_product (numbers_first ts))
    (KeepsMeanings-trans (nested_product (numbers_in ts) (others_in ts)) (KeepsMeanings-product_more (numbers_multiplied c ts h) (KeepsMeanings-refl (mult (others_in ts)))))

-- ---- the coefficient in front

pub one_is_num : (c : Tree) → is_num_one c ≡ true → c ≡ num one_fraction
one_is_num c h = grind (arith, one_is)

pub coefficient_in_front : (c : Tree) (ts : Trees) → KeepsMeanings (mult (more c ts)) (mult (coefficient_before c ts))
coefficient_in_front c ts = grind (arith, one_is_num, one_factor_of_product, first_opened)
