-- Nest and Load of the factors of a product.
use Rattle.product_reduce.proofs.Shared.{ℕ, ◌+◌, ◌≤◌, ◌≡◌, true, refl, ap, ◌∙◌, arith, factors_of, nest_of, load, load_of_factor, load_of_factors, is_number, IsNumber, product_tree, Tree, mult, Trees}
use Rattle.product_reduce.proofs.Shared.{none, more, Permuted, permuted_none, permuted_more, permuted_swap, permuted_trans, number_words, number_test, opened, others_in, coefficient_before}
use Rattle.product_reduce.proofs.Shared.{nest-append, nest_number, of_factors_nest, append_load, of_factors_load}

-- ---- Nest

pub nest_opened : (ts : Trees) → nest_of (opened ts) ≡ nest_of ts
nest_opened none = refl
nest_opened (more t ts) = omega (arith, nest-append (factors_of t) (opened ts), of_factors_nest t, nest_opened ts)

pub nest_others : (ts : Trees) → nest_of (others_in ts) ≤ nest_of ts
nest_others none = omega arith
nest_others (more t ts) = grind (arith, nest_others ts)

pub nest_with : (c : Tree) (ts : Trees) → is_number c ≡ true → nest_of (coefficient_before c ts) ≤ nest_of ts
nest_with c ts h = grind (arith, nest-append, of_factors_nest, nest_number)

-- ---- Load

load_is : (t : Tree) → IsNumber t → load_of_factor t ≡ 0
unfolding is_number
load_is t h = grind (arith, number_test)

pub load_number : (t : Tree) → is_number t ≡ true → load_of_factor t ≡ 0
load_number t h = load_is t (number_words t h)

pub load_opened : (ts : Trees) → load_of_factors (opened ts) ≡ load_of_factors ts
load_opened none = refl
load_opened (more t ts) = omega (arith, append_load (factors_of t) (opened ts), of_factors_load t, load_opened ts)

pub load_others : (ts : Trees) → load_of_factors (others_in ts) ≤ load_of_factors ts
load_others none = omega arith
load_others (more t ts) = grind (arith, load_others ts)

pub load_with : (c : Tree) (ts : Trees) → is_number c ≡ true → load_of_factors (coefficient_before c ts) ≤ load_of_factors ts
load_with c ts h = grind (arith, append_load, of_factors_load, load_number)

pub load_permuted : {ts us : Trees} → Permuted ts us → load_of_factors ts ≡ load_of_factors us
load_permuted permuted_none = refl
load_permuted (permuted_more {t} h) = ap (λ (n : ℕ). load_of_factor t + n) (load_permuted h)
load_permuted (permuted_swap {t} {u} {ts}) = omega arith
load_permuted (permuted_trans h k) = load_permuted h ∙ load_permuted k

pub load_tree : (ts : Trees) → load (product_tree ts) ≤ load_of_factors ts
unfolding is_number
load_tree ts = grind arith

-- a product loads as its factors do
pub load_product : (ts : Trees) → load (mult ts) ≡ load_of_factors ts
load_product ts = grind (arith, load_number (mult ts))
