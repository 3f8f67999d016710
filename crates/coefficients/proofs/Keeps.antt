-- What a rational times a term or a sum means, its names and its nest; and so a coefficient before a part.
use Rattle.coefficients.proofs.Shared.{arith, ◌≡◌, ◌++◌, Bool, true, false, if◌then◌else◌, refl, ap, append-nil, Fraction, times, zero_fraction, is_zero_fraction, is_one_fraction, is_number}
use Rattle.coefficients.proofs.Shared.{product_tree, Tree, num, add, mult, Trees, none, more, names, names_of, zero_is, one_is, factors_of, spliced, rational_before, with_coefficient, mapped}
use Rattle.coefficients.proofs.Shared.{rational_times_factors, rational_times, rational_times_number, rational_times_term, rational_times_sum, KeepsMeanings, KeepsMeanings-refl, KeepsMeanings-eq}
use Rattle.coefficients.proofs.Shared.{KeepsMeanings-trans, KeepsMeanings-sum_more, KeepsMeanings-product_more, two, flat_product, joined_in_product, one_factor_of_product, single_product}
use Rattle.coefficients.proofs.Shared.{to_single_product, multiples, distributed, zero_product, product_of_rationals, product_tree_keeps, one_times_part}

-- ---- meanings

-- a rational that becomes 1 is not written
led_keeps : (q c : Fraction) (ts : Trees) → KeepsMeanings (mult (more (num q) (more (num c) ts))) (if is_one_fraction (times q c) then product_tree ts else mult (more (num (times q c)) ts))
led_keeps q c ts = by (is_one_fraction (times q c)) refl
  where
    joined : KeepsMeanings (mult (more (num q) (more (num c) ts))) (mult (more (num (times q c)) ts))
    joined = joined_in_product (num q) (num c) (num (times q c)) ts (product_of_rationals q c)

    by : (b : Bool) → is_one_fraction (times q c) ≡ b → KeepsMeanings (mult (more (num q) (more (num c) ts))) (if b then product_tree ts else mult (more (num (times q c)) ts))
    by true e =
        KeepsMeanings-trans joined (KeepsMeanings-trans (KeepsMeanings-eq (ap (λ (x : Fraction). mult (more (num x) ts)) (one_is (times q c) e)))
        (KeepsMeanings-trans (one_factor_of_product ts) (product_tree_keeps ts)))
    by false e = joined

factors_keep : (q : Fraction) (ts : Trees) → KeepsMeanings (mult (more (num q) ts)) (rational_times_factors q ts)
factors_keep q ts = grind (arith, led_keeps, KeepsMeanings-refl)

-- the factors of a product come up
raised : (c : Tree) (ts : Trees) → KeepsMeanings (mult (two c (mult ts))) (mult (more c ts))
raised c ts = KeepsMeanings-product_more (KeepsMeanings-refl c) (single_product (mult ts))

pub rational_keeps : (q : Fraction) (t : Tree) → KeepsMeanings (mult (two (num q) t)) (rational_times q t)
rational_keeps q (num c) = product_of_rationals q c
rational_keeps q (mult ts) = KeepsMeanings-trans (raised (num q) ts) (factors_keep q ts)
rational_keeps q t = KeepsMeanings-refl (mult (two (num q) t))

-- each term by itself
mapped_keeps : (c : Tree) (f : Tree → Tree) → ((t : Tree) → KeepsMeanings (mult (two c t)) (f t)) → (ts : Trees) → KeepsMeanings (add (multiples c ts)) (add (mapped f ts))
mapped_keeps c f h none = KeepsMeanings-refl (add none)
mapped_keeps c f h (more t ts) = KeepsMeanings-sum_more (h t) (mapped_keeps c f h ts)

pub number_keeps : (q : Fraction) (ts : Trees) → KeepsMeanings (mult (two (num q) (add ts))) (rational_times_number q ts)
number_keeps q ts = KeepsMeanings-trans (distributed (num q) ts) (mapped_keeps (num q) (rational_times q) (rational_keeps q) ts)

pub term_keeps : (q : Fraction) (t : Tree) → KeepsMeanings (mult (two (num q) t)) (rational_times_term q t)
term_keeps q (mult (more (add us) ts)) = KeepsMeanings-trans (raised (num q) (more (add us) ts)) (by (is_number (add us)))
  where
    by : (b : Bool) → KeepsMeanings (mult (more (num q) (more (add us) ts))) (if b then mult (more (rational_times_number q us) ts) else mult (more (num q) (more (add us) ts)))
    by true = joined_in_product (num q) (add us) (rational_times_number q us) ts (number_keeps q us)
    by false = KeepsMeanings-refl (mult (more (num q) (more (add us) ts)))
term_keeps q (mult (more (num c) ts)) = rational_keeps q (mult (more (num c) ts))
term_keeps q t = rational_keeps q t

-- a rational times a sum
pub sum_keeps : (q : Fraction) (ts : Trees) → KeepsMeanings (mult (two (num q) (add ts))) (rational_times_sum q ts)
sum_keeps q ts = KeepsMeanings-trans (distributed (num q) ts) (mapped_keeps (num q) (rational_times_term q) (term_keeps q) ts)

factors_up : (t : Tree) → KeepsMeanings t (mult (factors_of t))
factors_up t = grind (arith, KeepsMeanings-refl, to_single_product)

pub spliced_keeps : (c p : Tree) → KeepsMeanings (mult (two c p)) (spliced c p)
spliced_keeps c p =
    KeepsMeanings-trans (KeepsMeanings-product_more (factors_up c) (KeepsMeanings-trans (single_product p) (factors_up p)))
    (flat_product (factors_of c) (factors_of p))

before_keeps : (q : Fraction) (p : Tree) → KeepsMeanings (mult (two (num q) p)) (rational_before q p)
before_keeps q (add ts) = sum_keeps q ts
before_keeps q p = spliced_keeps (num q) p

-- a coefficient before a part means their product
pub coefficient_keeps : (c p : Tree) → KeepsMeanings (mult (two c p)) (with_coefficient c p)
coefficient_keeps (num q) p = zero (is_zero_fraction q) refl
  where
    one : (b : Bool) → is_one_fraction q ≡ b → KeepsMeanings (mult (two (num q) p)) (if b then p else rational_before q p)
    one true e = KeepsMeanings-trans (KeepsMeanings-eq (ap (λ (x : Fraction). mult (two (num x) p)) (one_is q e))) (one_times_part p)
    one false e = before_keeps q p

    zero : (b : Bool) → is_zero_fraction q ≡ b → KeepsMeanings (mult (two (num q) p)) (if b then num zero_fraction else (if is_one_fraction q then p else rational_before q p))
    zero true e = KeepsMeanings-trans (KeepsMeanings-eq (ap (λ (x : Fraction). mult (two (num x) p)) (zero_is q e))) (zero_product (more p none))
    zero false e = one (is_one_fraction q) refl
coefficient_keeps c p = spliced_keeps c p

-- ---- names

pub tree_names : (ts : Trees) → names (product_tree ts) ≡ names_of ts
tree_names ts = grind (arith, append-nil)

factors_names : (q : Fraction) (ts : Trees) → names (rational_times_factors q ts) ≡ names_of ts
factors_names q ts = grind (arith, tree_names)

pub rational_names : (q : Fraction) (t : Tree) → names (rational_times q t) ≡ names t
rational_names q t = grind (arith, factors_names, append-nil)

mapped_names : (f : Tree → Tree) → ((t : Tree) → names (f t) ≡ names t) → (ts : Trees) → names_of (mapped f ts) ≡ names_of ts
mapped_names f h none = refl
mapped_names f h (more t ts) = λ i. h t i ++ mapped_names f h ts i

pub term_names : (q : Fraction) (t : Tree) → names (rational_times_term q t) ≡ names t
term_names q (mult (more (add us) ts)) = by (is_number (add us))
  where
    by : (b : Bool) → names (if b then mult (more (rational_times_number q us) ts) else mult (more (num q) (more (add us) ts))) ≡ names_of us ++ names_of ts
    by true = ap (λ x. x ++ names_of ts) (mapped_names (rational_times q) (rational_names q) us)
    by false = refl
term_names q (mult (more (num c) ts)) = rational_names q (mult (more (num c) ts))
term_names q t = rational_names q t

-- a rational times a sum has the same names
pub sum_names : (q : Fraction) (ts : Trees) → names (rational_times_sum q ts) ≡ names_of ts
sum_names q ts = mapped_names (rational_times_term q) (term_names q) ts
