-- Which operation of a power does not fit, from the call that was refused.
use Rattle.power_reduce.proofs.Shared.{◌≡◌, ℕ, ℤ, pos, negsuc, neg_ℤ, ◌≤ℤ◌, ◌<ℤ◌, ◌≤◌, true, false, Result, Ok, Err, sym, subst, arith, nat_abs, IfErr, ints, is_number, classes, value}
use Rattle.power_reduce.proofs.Shared.{IsPlainOverflow, calculated, plain_value, whole_numerator, pow_op, Fraction, whole_fraction, Tree, num, power, is_num, State, AnswersRationals, IsInverseOf}
use Rattle.power_reduce.proofs.Shared.{OfOverflow, RaisingOverflows, LoweringOverflows, inverting, raising, WholeOverflows, NamesPower, IsPowerMisfit, Overflow, NumberFault, InverseOverflows}
use Rattle.power_reduce.proofs.{Shared.{PowerOverflows}, Written.{rational_power_is, inverse_power_is, positive_power_is}}
use Rattle.tree_handles.specs.declared.fault.NumberFault.TheVariants as fault

names_rational : (b e : Tree) (q : Fraction) (o : Overflow) → b ≡ num q → IsPlainOverflow (plain_value (power b e)) o → NamesPower b e o
names_rational b e q o h k = grind arith

pub rational_misfit : (t b e : Tree) (q : Fraction) (z : ℤ) (o : Overflow) → t ≡ power b e → b ≡ num q → e ≡ num (whole_fraction z) → IsPlainOverflow (plain_value t) o → IsPowerMisfit b e o
rational_misfit t b e q z o h k l m = record { number = rational_power_is b e q z k l; named = names_rational b e q o k (subst (λ (x : Tree). IsPlainOverflow (plain_value x) o) h m) }

names_whole : (b : Tree) (z : ℤ) (o : Overflow) → is_num b ≡ false → WholeOverflows b z o → NamesPower b (num (whole_fraction z)) o
names_whole b z o h k = grind (arith, whole_numerator)

names_other : (b e : Tree) (z : ℤ) (o : Overflow) → is_num b ≡ false → e ≡ num (whole_fraction z) → WholeOverflows b z o → NamesPower b e o
names_other b e z o h k l = subst (λ (x : Tree). NamesPower b x o) (sym k) (names_whole b z o h l)

-- ---- exponents above 0

above : (b : Tree) (z : ℤ) (o : Overflow) → pos 1 ≤ℤ z → PowerOverflows (value b) (nat_abs z) o → WholeOverflows b z o
above b z o l h = grind arith

pub positive_misfit : (b e a : Tree) (y z : ℤ) (o : Overflow) → e ≡ num (whole_fraction z) → pos 1 ≤ℤ z → is_number b ≡ true → is_num b ≡ false → a ≡ b → y ≡ z → PowerOverflows (value a) (nat_abs y) o → IsPowerMisfit b e o
positive_misfit b e a y z o k l n r p q h = record {
  number = positive_power_is b e z n l k;
  named = names_other b e z o r k (above b z o l (subst (λ x. PowerOverflows (value x) (nat_abs z) o) p (subst (λ x. PowerOverflows (value a) (nat_abs x) o) q h)));
}

-- ---- exponents below 0

below : (b : Tree) (z : ℤ) (o : Overflow) → z <ℤ pos 0 → LoweringOverflows b (nat_abs (neg_ℤ z)) o → WholeOverflows b z o
below b (pos n) o l h = absurd (omega (arith, ints))
below b (negsuc n) o l h = h

lowered : (b e : Tree) (z : ℤ) (o : Overflow) → e ≡ num (whole_fraction z) → z <ℤ pos 0 → classes b ≤ 2 → is_number b ≡ true → is_num b ≡ false → LoweringOverflows b (nat_abs (neg_ℤ z)) o → IsPowerMisfit b e o
lowered b e z o k l c n r h = record {
  number = inverse_power_is b e z n c k;
  named = names_other b e z o r k (below b z o l h);
}

pub inverse_misfit : (b e a : Tree) (z : ℤ) (o : Overflow) → e ≡ num (whole_fraction z) → z <ℤ pos 0 → classes b ≤ 2 → is_number b ≡ true → is_num b ≡ false → a ≡ b → InverseOverflows (value a) o → IsPowerMisfit b e o
inverse_misfit b e a z o k l c n r p h = lowered b e z o k l c n r (inverting (subst (λ x. InverseOverflows (value x) o) p h))

pub negative_misfit : (b e a i : Tree) (y z : ℤ) (o : Overflow) → e ≡ num (whole_fraction z) → z <ℤ pos 0 → classes b ≤ 2 → is_number b ≡ true → is_num b ≡ false → a ≡ b → y ≡ neg_ℤ z → IsInverseOf (value a) i → RaisingOverflows i (nat_abs y) o → IsPowerMisfit b e o
negative_misfit b e a i y z o k l c n r p q v h = lowered b e z o k l c n r (raising i (subst (λ x. IsInverseOf (value x) i) p v) (subst (λ x. RaisingOverflows i (nat_abs x) o) q h))

-- a Number that is raised, be it a rational or none
pub raised_misfit : (i : Tree) (y : ℤ) (new : State) (r : Result ℕ NumberFault) → pos 1 ≤ℤ y → ((q : Fraction) → i ≡ num q → AnswersRationals (calculated pow_op q (whole_fraction y)) new r)
    → (is_num i ≡ false → IfErr r (OfOverflow (PowerOverflows (value i) (nat_abs y)))) → IfErr r (OfOverflow (RaisingOverflows i (nat_abs y)))
raised_misfit i y new (Ok h) l a k = tt
raised_misfit i y new (Err (fault.Full f)) l a k = tt
raised_misfit i (negsuc n) new (Err (fault.Overflow o)) l a k = absurd (omega (arith, ints))
raised_misfit i (pos n) new (Err (fault.Overflow o)) l a k = grind arith
