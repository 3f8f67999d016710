-- Whole numbers that are placed.
use Rattle.dual_diff.proofs.Shared.{◌≡◌, ◌<◌, ◌≤◌, ℕ, List, ℤ, true, false, sym, ap, ◌∙◌, subst, arith, FitsSigned, Some, nat_abs, whole_literal, Rat, lowest, whole_fraction, rational}
use Rattle.dual_diff.proofs.Shared.{size_of_payload, ratio_of, value_of, Tree, num, root_kind, size, whole_num, mult, more, two, power, told, children_of, nth, derivative, exponent_limit, lowered}
use Rattle.dual_diff.proofs.{Shared.{power_rule, occurs, fits_signed_from_abs, w128, ◌^◌, nat_eq, of_z, to_z, int_is_one, int_is_zero, Ratio, whole}, Rules.{power_by_rule}}
use Rattle.std.proofs.Common.{pos, ◌-ℤ◌}
use Rattle.calc_terms.specs.declared.kind.Kind.TheVariants as kind

pub placed_value : (r : Rat) (z : ℤ) → nat_abs z < 2 ^ 127 → ratio_of r ≡ whole (to_z w128 (of_z w128 z)) → value_of r ≡ whole_fraction z
placed_value r z fits e = ap (λ (x : Ratio). lowest x.num x.den) e ∙ ap whole_fraction (told z fits)

pub placed_size : (r : Rat) (z : ℤ) → nat_abs z < 2 ^ 127 → ratio_of r ≡ whole (to_z w128 (of_z w128 z)) → size_of_payload (rational (ratio_of r)) ≡ size (num (whole_fraction z))
placed_size r z fits e = ap (λ (x : Ratio). size_of_payload (rational x)) e ∙ ap (λ (y : ℤ). size_of_payload (rational (whole y))) (told z fits)

-- ---- tests of 0 and of 1

pub told_zero : (z : ℤ) → nat_abs z < 2 ^ 127 → nat_eq (of_z w128 z) 0 ≡ int_is_zero z
told_zero z h = grind arith

-- ---- the rule of powers by them

pub zero_rule : (n : ℤ) (b b' : Tree) → int_is_zero n ≡ true → power_rule n b b' ≡ whole_num 0
zero_rule n b b' h = grind arith

pub one_rule : (n : ℤ) (b b' : Tree) → int_is_one n ≡ true → power_rule n b b' ≡ b'
one_rule n b b' h = grind arith

pub lowered_rule : (n : ℤ) (b b' : Tree) → int_is_zero n ≡ false → int_is_one n ≡ false → power_rule n b b' ≡ lowered n b b'
lowered_rule n b b' h k = grind arith

pub small_fits : (z : ℤ) → nat_abs z ≤ exponent_limit → nat_abs z < 2 ^ 127
small_fits z h = omega arith

pub less_fits : (z : ℤ) → nat_abs z ≤ exponent_limit → nat_abs (z -ℤ pos 1) < 2 ^ 127
less_fits z h = grind arith

-- ---- as the machine holds them

pub told_small : (z : ℤ) → nat_abs z ≤ exponent_limit → nat_abs (to_z w128 (of_z w128 z)) ≤ exponent_limit
told_small z h = subst (λ (k : ℤ). nat_abs k ≤ exponent_limit) (sym (told z (small_fits z h))) h

pub told_fits : (z : ℤ) → nat_abs z ≤ exponent_limit → nat_abs (to_z w128 (of_z w128 z)) < 2 ^ 127
told_fits z h = small_fits (to_z w128 (of_z w128 z)) (told_small z h)

pub told_less : (z : ℤ) → nat_abs z ≤ exponent_limit → to_z w128 (of_z w128 (to_z w128 (of_z w128 z) -ℤ pos 1)) ≡ z -ℤ pos 1
told_less z h = ap (λ (k : ℤ). to_z w128 (of_z w128 (k -ℤ pos 1))) (told z (small_fits z h)) ∙ told (z -ℤ pos 1) (less_fits z h)

pub told_less_fits : (z : ℤ) → nat_abs z ≤ exponent_limit → nat_abs (to_z w128 (of_z w128 (to_z w128 (of_z w128 z) -ℤ pos 1))) < 2 ^ 127
told_less_fits z h = subst (λ (k : ℤ). nat_abs k < 2 ^ 127) (sym (told_less z h)) (less_fits z h)

pub less_fits_signed : (z : ℤ) → nat_abs z ≤ exponent_limit → FitsSigned w128 (to_z w128 (of_z w128 z) -ℤ pos 1)
less_fits_signed z h = fits_signed_from_abs w128 (to_z w128 (of_z w128 z) -ℤ pos 1) (less_fits (to_z w128 (of_z w128 z)) (told_small z h))

-- the number less 1, as the machine holds it
abbrev pub told_less_of : ℤ → ℤ
told_less_of z = to_z w128 (of_z w128 (to_z w128 (of_z w128 z) -ℤ pos 1))

pub lowered_as : (z : ℤ) → nat_abs z ≤ exponent_limit → (b b' : Tree)
    → mult (more (num (whole_fraction (to_z w128 (of_z w128 z)))) (two (power b (num (whole_fraction (told_less_of z)))) b')) ≡ lowered z b b'
lowered_as z h b b' i = mult (more (num (whole_fraction (told z (small_fits z h) i))) (two (power b (num (whole_fraction (told_less z h i)))) b'))

-- ---- a power's derivative, by its exponent

module _ (x : List ℕ) (t : Tree) (n : ℤ) {b e : Tree} (h : root_kind t ≡ kind.Pow) (o : occurs x t ≡ true) (base : b ≡ nth 0 (children_of t)) (exponent : e ≡ nth 1 (children_of t))
    (l : Some n ≡ whole_literal e) (small : nat_abs n ≤ exponent_limit) where
  by_exponent : derivative x t ≡ power_rule n b (derivative x b)
  by_exponent = power_by_rule x t n h o (ap whole_literal (sym exponent) ∙ sym l) base

  machine : n ≡ to_z w128 (of_z w128 n)
  machine = sym (told n (small_fits n small))

  pub zero_power : int_is_zero (to_z w128 (of_z w128 n)) ≡ true → derivative x t ≡ whole_num 0
  zero_power z = by_exponent ∙ zero_rule n _ _ (ap int_is_zero machine ∙ z)

  pub first_power : int_is_one (to_z w128 (of_z w128 n)) ≡ true → derivative x t ≡ derivative x b
  first_power z = by_exponent ∙ one_rule n _ _ (ap int_is_one machine ∙ z)

  pub lowered_power : int_is_zero (to_z w128 (of_z w128 n)) ≡ false → int_is_one (to_z w128 (of_z w128 n)) ≡ false → derivative x t ≡ lowered n b (derivative x b)
  lowered_power z w = by_exponent ∙ lowered_rule n _ _ (ap int_is_zero machine ∙ z) (ap int_is_one machine ∙ w)

  pub lowered_told : int_is_zero (to_z w128 (of_z w128 n)) ≡ false → int_is_one (to_z w128 (of_z w128 n)) ≡ false → derivative x t ≡ lowered (to_z w128 (of_z w128 n)) b (derivative x b)
  lowered_told z w = lowered_power z w ∙ ap (λ k. lowered k b (derivative x b)) machine
