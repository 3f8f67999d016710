-- A whole power of a Number that is held within few bits does not overflow.
use Rattle.power_reduce.proofs.Shared.{◌≡◌, ◌≢◌, ℕ, zero, suc, ◌+◌, ◌*◌, ◌≤◌, ℤ, pos, negsuc, [], Bool, true, false, not, Result, Ok, Err, refl, ap, ◌∙◌, subst, arith, nat_abs, IfErr, is_number}
use Rattle.power_reduce.proofs.Shared.{value, term, surd_of, IsHeld, IsPlainOverflow, PlainValue, calculated, exactly, overflow, powered, undefined, no_zero, whole_numerator}
use Rattle.power_reduce.proofs.Shared.{pow_op, fraction_fits, fraction_power, result_of, Fraction, inverse, whole_fraction, zero_fraction, is_zero_fraction, Tree, num, power}
use Rattle.power_reduce.proofs.Shared.{rational_power, rational_power_over, IsFactorHeld, HasFewBitsRaised, IsPowerMisfit, inverting, raising, NamesPower, RaisingOverflows, WholeOverflows}
use Rattle.power_reduce.proofs.Shared.{has_number_power, Overflow, factor_as_tree, held_number, nothing_held, OfOverflow, NumberFault, inverse_no_larger, power_no_larger, power_parts}
use Rattle.power_reduce.proofs.{Shared.{rational_power_fits, power_within, inverse_within, one_no_larger}, RationalPowers.{plain_power}}
use Rattle.surd_terms.proofs.Values.{times_whole_one as itself_by_one}
use Rattle.std.specs.Prelude.{if◌then◌else◌}
use Rattle.tree_handles.specs.declared.fault.NumberFault.TheVariants as fault

pub number_is_held : (b : Tree) (h l : ℕ) → is_number b ≡ true → IsFactorHeld b h l → IsHeld (value b) h l
number_is_held b h l n a = held_number n (factor_as_tree b h l a)

-- ---- rationals

-- a power that is n times as large
pub rational_raised : (q r : Fraction) (n h l : ℕ) → 1 ≤ n → r ≡ fraction_power q n → IsHeld (value (num q)) h l → IsHeld (value (num r)) (n * h) (n * l)
rational_raised q r n h l o e k =
    (power_no_larger o (rational_power_over r (fraction_power q n) (num r) (value (num q)) n e refl (rational_power q n (num q) refl) (power_parts q n (num q) refl))).held h l k

-- the inverse
pub rational_inverted : (q : Fraction) (h l : ℕ) → is_zero_fraction q ≡ false → IsHeld (value (num q)) h l → IsHeld (value (num (inverse q))) (h + 2 * l) (2 * h + 2 * l)
rational_inverted q h l z k = by (is_zero_fraction (inverse q))
  where
    some : q ≢ zero_fraction
    some = no_zero q (ap not z)

    held : IsHeld (surd_of q) h l
    held = subst (λ (b : Bool). IsHeld (if b then [] else surd_of q) h l) z k

    turned : IsHeld (surd_of (inverse q)) (h + 2 * l) (2 * h + 2 * l)
    turned = subst (λ (x : Fraction). IsHeld (surd_of (inverse x)) (h + 2 * l) (2 * h + 2 * l)) (itself_by_one q) ((one_no_larger (term q 1) some (omega arith)).held h l held)

    by : (b : Bool) → IsHeld (if b then [] else surd_of (inverse q)) (h + 2 * l) (2 * h + 2 * l)
    by true = nothing_held (h + 2 * l) (2 * h + 2 * l)
    by false = turned

rational_within : (q : Fraction) (n h l : ℕ) (o : Overflow) → IsHeld (value (num q)) h l → n * (2 * h + 4 * l) ≤ 124 → IsPlainOverflow (calculated pow_op q (whole_fraction (pos n))) o → ⊥
rational_within q n h l o k few m =
    let fits : fraction_fits (fraction_power q (nat_abs (whole_fraction (pos n)).num)) ≡ true = ap (λ (y : ℤ). fraction_fits (fraction_power q (nat_abs y))) (whole_numerator (pos n)) ∙ rational_power_fits q n h l k few in
    subst (λ b. IsPlainOverflow (if b then exactly (result_of pow_op q (whole_fraction (pos n))) else overflow pow_op q (whole_fraction (pos n))) o) fits m

few_raised : (n h l : ℕ) → 2 * (n * h) + 4 * (n * l) ≤ 124 → n * (2 * h + 4 * l) ≤ 124
few_raised n h l f = omega arith

powered_within : (q : Fraction) (z : ℤ) (h l : ℕ) (o : Overflow) → IsHeld (value (num q)) h l → HasFewBitsRaised z h l → IsPlainOverflow (powered q z 1) o → ⊥
powered_within q (pos zero) h l o k few m = grind arith
powered_within q (pos (suc n)) h l o k few m = rational_within q (suc n) h l o k (few_raised (suc n) h l few) m
powered_within q (negsuc n) h l o k few m = by (is_zero_fraction q) refl m
  where
    by : (b : Bool) → is_zero_fraction q ≡ b → IsPlainOverflow (if b then undefined else calculated pow_op (inverse q) (whole_fraction (pos (suc n)))) o → ⊥
    by true e x = x
    by false e x = rational_within (inverse q) (suc n) (h + 2 * l) (2 * h + 2 * l) o (rational_inverted q h l e k) (few_raised (suc n) (h + 2 * l) (2 * h + 2 * l) few) x

-- ---- other Numbers

raising_within : (i : Tree) (n h l : ℕ) (o : Overflow) → IsHeld (value i) h l → n * (2 * h + 4 * l) ≤ 124 → RaisingOverflows i n o → ⊥
raising_within (num q) n h l o k few m = rational_within q n h l o k few m
raising_within i n h l o k few m = power_within (value i) n h l o k few m

inverse_few : (n h l : ℕ) → 2 * (suc n * (h + 2 * l)) + 4 * (suc n * (2 * h + 2 * l)) ≤ 124 → 2 * h + 4 * l ≤ 124
inverse_few n h l f = omega arith

whole_within : (b : Tree) (z : ℤ) (h l : ℕ) (o : Overflow) → is_number b ≡ true → IsHeld (value b) h l → HasFewBitsRaised z h l → WholeOverflows b z o → ⊥
whole_within b (pos n) h l o m k few w = power_within (value b) n h l o k (few_raised n h l few) w
whole_within b (negsuc n) h l o m k few (inverting x) = inverse_within b o m (record { high = h; low = l; held = k; few = inverse_few n h l few }) x
whole_within b (negsuc n) h l o m k few (raising i v x) =
    raising_within i (suc n) (h + 2 * l) (2 * h + 2 * l) o ((inverse_no_larger b i m v).held h l k) (few_raised (suc n) (h + 2 * l) (2 * h + 2 * l) few) x

-- ---- the misfit of a step

number_base : (b e : Tree) → has_number_power b e ≡ true → is_number b ≡ true
number_base b e h = grind arith

named_within : (b : Tree) (z : ℤ) (h l : ℕ) (o : Overflow) → is_number b ≡ true → IsHeld (value b) h l → HasFewBitsRaised z h l → NamesPower b (num (whole_fraction z)) o → ⊥
named_within (num p) z h l o m k few w =
    powered_within p z h l o k few (subst (λ (v : PlainValue). IsPlainOverflow v o) (plain_power (power (num p) (num (whole_fraction z))) (num p) (num (whole_fraction z)) p z refl refl refl) w)
named_within b z h l o m k few w = whole_within b z h l o m k few (subst (λ y. WholeOverflows b y o) (whole_numerator z) w)

pub misfit_within : (b e : Tree) (z : ℤ) (h l : ℕ) (o : Overflow) → e ≡ num (whole_fraction z) → IsFactorHeld b h l → HasFewBitsRaised z h l → IsPowerMisfit b e o → ⊥
misfit_within b e z h l o i a few m =
    let n = number_base b e m.number in
    named_within b z h l o n (number_is_held b h l n a) few (subst (λ (x : Tree). NamesPower b x o) i m.named)

pub within_bits : {A : Type 0} (b e : Tree) (z : ℤ) (h l : ℕ) (r : Result A NumberFault) → e ≡ num (whole_fraction z) → IsFactorHeld b h l → HasFewBitsRaised z h l → IfErr r (OfOverflow (IsPowerMisfit b e)) → IfErr r (OfOverflow (λ o. ⊥))
within_bits b e z h l (Ok x) i a few m = tt
within_bits b e z h l (Err (fault.Full f)) i a few m = tt
within_bits b e z h l (Err (fault.Overflow o)) i a few m = misfit_within b e z h l o i a few m
