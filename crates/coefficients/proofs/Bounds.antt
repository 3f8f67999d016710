-- The nest and the load of a coefficient before a part.
use Rattle.coefficients.proofs.Shared.{true≢false, ◌≡◌, ℕ, ◌+◌, ◌≤◌, max, Bool, true, false, if◌then◌else◌, refl, sym, ap, ◌∙◌, arith, Fraction, times, zero_fraction, is_zero_fraction}
use Rattle.coefficients.proofs.Shared.{is_one_fraction, nest, nest_of, load, load_of_factor, load_of_factors, is_number, IsNumber, product_tree, Tree, num, add, mult, Trees, none, more, append}
use Rattle.coefficients.proofs.Shared.{is_mult, number_test, factors_of, spliced, rational_before, with_coefficient, IsMonic, mapped, rational_times_factors, rational_times, rational_times_number}
use Rattle.coefficients.proofs.{Shared.{rational_times_term, rational_times_sum, nest-append}, Factors.{monic_no_number}}

-- ---- nests

max_zero : (n : ℕ) → max n 0 ≡ n
max_zero n = omega arith

zero_max : (n : ℕ) → max 0 n ≡ n
zero_max n = omega arith

pub tree_nest : (ts : Trees) → nest (product_tree ts) ≡ nest_of ts
tree_nest ts = grind (arith, max_zero)

factors_nest : (q : Fraction) (ts : Trees) → nest (rational_times_factors q ts) ≡ nest_of ts
factors_nest q (more (num c) ts) = by (is_one_fraction (times q c))
  where
    by : (b : Bool) → nest (if b then product_tree ts else mult (more (num (times q c)) ts)) ≡ max 0 (nest_of ts)
    by true = tree_nest ts ∙ sym (zero_max (nest_of ts))
    by false = refl
factors_nest q ts = zero_max (nest_of ts)

rational_nest : (q : Fraction) (t : Tree) → nest (rational_times q t) ≡ nest t
rational_nest q t = grind (arith, factors_nest, zero_max, max_zero)

mapped_nest : (f : Tree → Tree) → ((t : Tree) → nest (f t) ≡ nest t) → (ts : Trees) → nest_of (mapped f ts) ≡ nest_of ts
mapped_nest f h none = refl
mapped_nest f h (more t ts) = λ i. max (h t i) (mapped_nest f h ts i)

term_nest : (q : Fraction) (t : Tree) → nest (rational_times_term q t) ≡ nest t
term_nest q (mult (more (add us) ts)) = by (is_number (add us))
  where
    by : (b : Bool) → nest (if b then mult (more (rational_times_number q us) ts) else mult (more (num q) (more (add us) ts))) ≡ max (nest_of us) (nest_of ts)
    by true = ap (λ (n : ℕ). max n (nest_of ts)) (mapped_nest (rational_times q) (rational_nest q) us)
    by false = zero_max (max (nest_of us) (nest_of ts))
term_nest q (mult (more (num c) ts)) = rational_nest q (mult (more (num c) ts))
term_nest q t = rational_nest q t

-- a rational times a sum has the same nest
pub sum_nest : (q : Fraction) (ts : Trees) → nest (rational_times_sum q ts) ≡ nest_of ts
sum_nest q ts = mapped_nest (rational_times_term q) (term_nest q) ts

pub of_factors_nest : (t : Tree) → nest_of (factors_of t) ≡ nest t
of_factors_nest t = grind (arith, max_zero)

spliced_nest : (c p : Tree) → nest (spliced c p) ≡ max (nest c) (nest p)
spliced_nest c p = nest-append (factors_of c) (factors_of p) ∙ (λ i. max (of_factors_nest c i) (of_factors_nest p i))

before_nest : (q : Fraction) (p : Tree) → nest (rational_before q p) ≡ nest p
before_nest q (add ts) = sum_nest q ts
before_nest q p = spliced_nest (num q) p ∙ zero_max (nest p)

-- a coefficient before a part has at most the larger nest of both
pub coefficient_nest : (c p : Tree) → nest (with_coefficient c p) ≤ max (nest c) (nest p)
coefficient_nest (num q) p = zero (is_zero_fraction q)
  where
    one : (b : Bool) → nest (if b then p else rational_before q p) ≤ max 0 (nest p)
    one true = omega arith
    one false = omega (arith, before_nest q p)

    zero : (b : Bool) → nest (if b then num zero_fraction else (if is_one_fraction q then p else rational_before q p)) ≤ max 0 (nest p)
    zero true = omega arith
    zero false = one (is_one_fraction q)
coefficient_nest c p = omega (arith, spliced_nest c p)

-- ---- loads

number_load : (t : Tree) → is_mult t ≡ false → is_number t ≡ true → load_of_factor t ≡ 0
number_load t m h = grind (arith, true≢false)

factors_load : (c : Tree) → IsNumber c → load_of_factors (factors_of c) ≡ 0
unfolding is_number
factors_load c h = grind (arith, number_load, number_test)

pub append_load : (ts us : Trees) → load_of_factors (append ts us) ≡ load_of_factors ts + load_of_factors us
append_load none us = omega arith
append_load (more t ts) us = omega (arith, append_load ts us)

pub of_factors_load : (t : Tree) → load_of_factors (factors_of t) ≡ load_of_factor t
of_factors_load t = grind arith

load_at_most : (t : Tree) → load t ≤ load_of_factor t
load_at_most t = grind arith

monic_load : (t : Tree) → IsMonic t → load t ≡ load_of_factor t
monic_load t m = rw (monic_no_number t m, m.defined) refl

spliced_load : (c p : Tree) → IsNumber c → IsMonic p → load (spliced c p) ≤ load p
spliced_load c p h m =
    omega (arith, load_at_most (spliced c p), append_load (factors_of c) (factors_of p), factors_load c h, of_factors_load p, monic_load p m)

sum_load : (q : Fraction) (ts : Trees) → IsMonic (add ts) → load (rational_times_sum q ts) ≤ load (add ts)
sum_load q ts m = grind (arith, monic_load, monic_no_number)

before_load : (q : Fraction) (p : Tree) → IsMonic p → load (rational_before q p) ≤ load p
before_load q (add ts) m = sum_load q ts m
before_load q p m = spliced_load (num q) p tt m

-- and at most the load of the part
pub coefficient_load : (c p : Tree) → IsNumber c → IsMonic p → load (with_coefficient c p) ≤ load p
unfolding is_number
coefficient_load (num q) p h m = zero (is_zero_fraction q)
  where
    one : (b : Bool) → load (if b then p else rational_before q p) ≤ load p
    one true = omega arith
    one false = before_load q p m

    zero : (b : Bool) → load (if b then num zero_fraction else (if is_one_fraction q then p else rational_before q p)) ≤ load p
    zero true = omega arith
    zero false = one (is_one_fraction q)
coefficient_load c p h m = spliced_load c p h m
