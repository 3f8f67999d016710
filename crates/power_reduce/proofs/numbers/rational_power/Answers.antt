use Rattle.power_reduce.proofs.Shared.{arith, ◌≡◌, pos, ◌≤ℤ◌, true, refl, sym, ap, ◌∙◌, subst, is_zero_fraction, PlainValue, powered, value_of, IsPlainOverflow, gives_as, given_told, passed_on}
use Rattle.power_reduce.proofs.{Shared.{tree_of, told, zero_rational, none_given, none_kept, front_same, kept_same, IsCaused, Faults, OfFull}, Misfits.{rational_misfit}}
use Rattle.power_reduce.proofs.{HeldPowers.{rational_power_held, no_number_undef}, Powers.{power_is, rational_room}, RationalPowers.{at_most, not_at_most, no_zero_rational, plain_power}}
use Rattle.power_reduce.proofs.{RationalPowers.{powered_undefined, nothing_answer, value_answer, overflow_answer, plain_as, rationals_as}, numbers.rational_power.Goals.{Then-n-le0}}
use Rattle.power_reduce.proofs.numbers.rational_power.Goals.{Joined-else-num-eq0, else-num-eq0-via-then-num-eq0+else-n-le0, else-num-eq0-via-else-num-eq0}
use Rattle.tree_handles.specs.declared.fault.NumberFault.TheVariants as fault
use Rattle.power_reduce.proofs.numbers.rational_power.Goals as goal

zero : (c : Then-n-le0) → is_zero_fraction (value_of c.args.q) ≡ true
zero c = zero_rational c.args.q c.num.result c.num.ensures.value c.if-num-eq0.true

pub returns-then-n-le0-clause-ok : goal.returns-then-n-le0-clause-ok
returns-then-n-le0-clause-ok c =
    gives_as c.undefined.ensures.gives refl
    (λ t u. nothing_answer _ _ _ c.args.n t c.requires.base c.requires.exponent (zero (goal.at.returns-then-n-le0-clause-ok c).Then-n-le0) (at_most c.args.n c.requires.fits c.if-n-le0.true) u)

pub returns-then-n-le0-clause-rationals : goal.returns-then-n-le0-clause-rationals
returns-then-n-le0-clause-rationals c =
    plain_as _ _ _
    (plain_power _ _ _ _ c.args.n (power_is _ c.requires.sides.power) c.requires.base c.requires.exponent
    ∙ powered_undefined (value_of c.args.q) c.args.n (at_most c.args.n c.requires.fits c.if-n-le0.true) (zero (goal.at.returns-then-n-le0-clause-rationals c).Then-n-le0))
    (given_told c.undefined.ensures.gives)

some : (c : Joined-else-num-eq0) → is_zero_fraction (value_of c.args.q) ≡ true → pos 1 ≤ℤ c.args.n
some c = grind (arith, not_at_most, no_zero_rational)

pub power_of-requires-clause-some : goal.power_of-requires-clause-some
power_of-requires-clause-some c = λ h. subst (λ z. pos 1 ≤ℤ z) (sym (told c.args.n c.requires.fits)) (some c h)

pub returns-in_err-value : goal.returns-in_err-value
returns-in_err-value c = record {
  ok = none_given c.from_residual.result _ c.from_residual.ensures.0;
  rationals =
      rationals_as _ _ c.args.pool.now _ (plain_power _ _ _ _ c.args.n (power_is _ c.requires.sides.power) c.requires.base c.requires.exponent)
      (overflow_answer _ c.args.pool.now _ c.in_err-value.field-0.0 c.from_residual.ensures.1 (subst (λ z. IsPlainOverflow (powered (value_of c.args.q) z 1) c.in_err-value.field-0.0) (told c.args.n c.requires.fits) c.in_err-value.ensures.named));
  overflow =
      let p = power_is _ c.requires.sides.power in
      passed_on c.from_residual.result (fault.Overflow c.in_err-value.field-0.0) _ c.from_residual.ensures.0 c.from_residual.ensures.1
      (rational_misfit _ _ _ (value_of c.args.q) c.args.n c.in_err-value.field-0.0 p c.requires.base c.requires.exponent
      (subst (λ (v : PlainValue). IsPlainOverflow v c.in_err-value.field-0.0) (sym (plain_power _ _ _ _ c.args.n p c.requires.base c.requires.exponent))
      (subst (λ z. IsPlainOverflow (powered (value_of c.args.q) z 1) c.in_err-value.field-0.0) (told c.args.n c.requires.fits) c.in_err-value.ensures.named)));
  front = front_same;
  kept = none_kept c.from_residual.result _ c.from_residual.ensures.0;
  faults = passed_on c.from_residual.result (fault.Overflow c.in_err-value.field-0.0) (Faults c.args.pool.now c.args.pool.now) c.from_residual.ensures.0 c.from_residual.ensures.1 (kept_same c.args.pool.now);
  caused = passed_on c.from_residual.result (fault.Overflow c.in_err-value.field-0.0) (IsCaused c.args.pool.now) c.from_residual.ensures.0 c.from_residual.ensures.1 c.in_err-value.ensures.caused;
  room = passed_on c.from_residual.result (fault.Overflow c.in_err-value.field-0.0) (OfFull (λ full. ⊥)) c.from_residual.ensures.0 c.from_residual.ensures.1 tt;
  held = none_given c.from_residual.result _ c.from_residual.ensures.0;
  stands = c.requires.stands;
}

pub returns-clause-ok : goal.returns-clause-ok
returns-clause-ok c =
    gives_as c.with_number.ensures.gives refl (λ t u. value_answer _ _ (value_of c.args.q) c.args.n t _ c.requires.base c.requires.exponent (some (goal.at.returns-clause-ok c).Joined-else-num-eq0)
    (ap (λ z. powered (value_of c.args.q) z 1) (sym (told c.args.n c.requires.fits)) ∙ c.in_ok-value.ensures.value) u)

pub with_number-requires-clause-room : goal.with_number-requires-clause-room
with_number-requires-clause-room c = rational_room (tree_of c.args.power c.args.pool.now) _ _ (value_of c.in_ok-value.value) c.requires.sides.power c.requires.base c.requires.exponent

pub returns-clause-rationals : goal.returns-clause-rationals
returns-clause-rationals c =
    plain_as _ _ _
    (plain_power _ _ _ _ c.args.n (power_is _ c.requires.sides.power) c.requires.base c.requires.exponent
    ∙ ap (λ z. powered (value_of c.args.q) z 1) (sym (told c.args.n c.requires.fits)) ∙ c.in_ok-value.ensures.value)
    (given_told c.with_number.ensures.gives)

-- ---- what holds it

pub returns-then-n-le0-clause-held : goal.returns-then-n-le0-clause-held
returns-then-n-le0-clause-held c = no_number_undef _ (given_told c.undefined.ensures.gives)

pub returns-clause-held : goal.returns-clause-held
returns-clause-held c = λ k.
    rational_power_held c.args.n _ (value_of c.in_ok-value.value) _ _ c.requires.base (given_told c.with_number.ensures.gives)
    (ap (λ z. powered (value_of c.args.q) z 1) (sym (told c.args.n c.requires.fits)) ∙ c.in_ok-value.ensures.value)
