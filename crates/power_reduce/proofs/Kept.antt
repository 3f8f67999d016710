-- Powers that no rule changes are reduced.
use Rattle.power_reduce.proofs.Shared.{or_parts, not-false, ◌≡◌, ◌≤◌, Bool, true, false, ◌&&◌, inr, Some, None, pos, refl, ap, arith, and_from, eq-eqb, not_from_false, Fraction, zero_fraction}
use Rattle.power_reduce.proofs.Shared.{one_fraction, is_zero_fraction, is_one_fraction, int_is_even, int_is_negative, is_number, classes, is_reduced, is_whole_num, is_transparent_power, IsPowerForm}
use Rattle.power_reduce.proofs.Shared.{IsWholePowerForm, Tree, num, symbol, undef, add, mult, power, root, neg, sub, div, is_undef, is_mult, is_root, whole_numerator, reduced_test, is_zero_or_one}
use Rattle.power_reduce.proofs.Shared.{goes_inside, is_even_whole, rewritten, rewritten_whole, reduced_parts}
use Rattle.std.proofs.Common.{if◌then◌else◌}
use Rattle.calc_terms.proofs.SmallLaws.{contradiction as clash, zero_is_zero as nothing_is}
use Rattle.number_forms.proofs.Placings.{one_test}

pub reduced_power : (b e : Tree) → is_reduced b ≡ true → is_reduced e ≡ true → is_undef b ≡ false → is_undef e ≡ false → IsPowerForm b e → is_reduced (power b e) ≡ true
reduced_power b e hb he ub ue form = reduced_test (power b e) (inr (inr form, reduced_parts b hb ub, reduced_parts e he ue))

-- ---- tests that fail

refused : (t : Bool) (u : Tree) → (if t then Some u else None) ≡ None → t ≡ false
refused t u h = grind arith

second_fails : (a b : Bool) → (a && b) ≡ false → a ≡ true → b ≡ false
second_fails a b h e = grind arith

-- ---- whole exponents

pub whole_inside : (q : Fraction) → q.den ≡ 1 → is_zero_or_one (num q) ≡ false → goes_inside (num q) ≡ true
whole_inside q d z = rw (z, eq-eqb q.den 1 d) refl

no_number : (b : Tree) (q : Fraction) → q.den ≡ 1 → (is_number b && is_whole_num (num q)) ≡ false → is_number b ≡ false
no_number b q d h = grind arith

whole_form : (b : Tree) (q : Fraction) → is_zero_or_one (num q) ≡ false → is_mult b ≡ false → is_transparent_power b ≡ false → (int_is_even q.num ≡ true → is_root b ≡ false) → is_number b ≡ false → IsWholePowerForm b q
whole_form b q z m p r n = grind (arith, nothing_is, one_test)

even_whole : (q : Fraction) → q.den ≡ 1 → is_zero_or_one (num q) ≡ false → int_is_even q.num ≡ true → is_even_whole q ≡ true
even_whole q d z e = and_from _ _ (and_from _ _ (eq-eqb q.den 1 d) e) (not_from_false _ (or_parts (is_zero_fraction q) (is_one_fraction q) z).0)

no_even_root : (a : Tree) (q : Fraction) → q.den ≡ 1 → is_zero_or_one (num q) ≡ false → is_number (root a) ≡ false → rewritten_whole (root a) (num q) ≡ None → int_is_even q.num ≡ true → is_root (root a) ≡ false
no_even_root a q d z n r e = clash (not-false _ (second_fails _ _ (refused _ _ r) (even_whole q d z e))) n

whole_kept : (b : Tree) (q : Fraction) → q.den ≡ 1 → is_zero_or_one (num q) ≡ false → is_number b ≡ false → rewritten_whole b (num q) ≡ None → IsWholePowerForm b q
whole_kept (root a) q d z n r = whole_form (root a) q z refl refl (no_even_root a q d z n r) n
whole_kept (power c f) q d z n r = whole_form (power c f) q z refl (second_fails _ _ (refused _ _ r) (whole_inside q d z)) (λ e. refl) n
whole_kept (mult ts) q d z n r = clash (not-false _ (second_fails _ _ (refused _ _ r) (whole_inside q d z))) n
whole_kept (num p) q d z n r = whole_form (num p) q z refl refl (λ e. refl) n
whole_kept (symbol x) q d z n r = whole_form (symbol x) q z refl refl (λ e. refl) n
whole_kept undef q d z n r = whole_form undef q z refl refl (λ e. refl) n
whole_kept (add ts) q d z n r = whole_form (add ts) q z refl refl (λ e. refl) n
whole_kept (neg a) q d z n r = whole_form (neg a) q z refl refl (λ e. refl) n
whole_kept (sub a c) q d z n r = whole_form (sub a c) q z refl refl (λ e. refl) n
whole_kept (div a c) q d z n r = whole_form (div a c) q z refl refl (λ e. refl) n

-- a power that no rule changes has its form
pub kept_form : (b e : Tree) → is_undef b ≡ false → is_zero_or_one e ≡ false → (is_number b && is_whole_num e) ≡ false → rewritten b e ≡ None → IsPowerForm b e
kept_form b e u z n r = grind (arith, whole_kept, no_number)

-- ---- Numbers of three classes

record IsWide (b : Tree) : Type 0 where
  no_product : is_mult b ≡ false
  no_power : is_transparent_power b ≡ false
  no_root : is_root b ≡ false
  defined : is_undef b ≡ false

zero_not_negative : int_is_negative zero_fraction.num ≡ false
unfolding zero_fraction
zero_not_negative = ap int_is_negative (whole_numerator (pos 0))

one_not_negative : int_is_negative one_fraction.num ≡ false
unfolding one_fraction
one_not_negative = ap int_is_negative (whole_numerator (pos 1))

pub wide_power : (b : Tree) (n : Fraction) → is_reduced b ≡ true → 3 ≤ classes b → n.den ≡ 1 → int_is_negative n.num ≡ true → is_reduced (power b (num n)) ≡ true
wide_power b n h c k l = grind (arith, reduced_power, reduced_test, zero_not_negative, one_not_negative)
