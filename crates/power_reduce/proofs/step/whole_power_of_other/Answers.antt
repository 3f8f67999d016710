use Rattle.power_reduce.proofs.Shared.{arith, ◌≡◌, true, false, refl, sym, ap, ◌∙◌, subst, IsNumberPower, whole_fraction, is_number, Tree, num, one_value, tree_of, gives_as, base_in, exponent_in}
use Rattle.power_reduce.proofs.{Shared.{is_even_whole, passed_on, refused_as, told, is_reduced, is_whole_num, is_root, none_given, none_kept, IsCaused, Faults}, Cases.{zero_kept, one_kept}}
use Rattle.power_reduce.proofs.{Cases.{other_power, even_bits, odd_bits, even_whole, odd_root_kept, number_kept, whole_goes_inside, no_number, again}, NumberPowers.{zero_answer, one_answer}}
use Rattle.power_reduce.proofs.{Powers.{one_room}, Rooms.{number_lacks}, Spanned.{base_spans}, RationalPowers.{zero_bits, no_zero_bits}, Whole.{one_bits, no_one_bits, whole_is}}
use Rattle.power_reduce.proofs.step.whole_power_of_other.Goals.{else-n-eq0-2-via-then-n-eq0-2+else-is_root, else-n-eq0-2-via-else-n-eq0-2}
use Rattle.power_reduce.proofs.step.whole_power_of_other.Goals as goal

pub is_reduced_number-requires-clause-reduced : goal.is_reduced_number-requires-clause-reduced
is_reduced_number-requires-clause-reduced c = ap is_reduced c.base_id-base.ensures.tree ∙ c.requires.sides.base

pub irrational_power-requires-clause-number : goal.irrational_power-requires-clause-number
irrational_power-requires-clause-number c = sym (ap is_number c.base_id-base.ensures.tree) ∙ sym c.is_reduced_number.ensures ∙ c.if-is_reduced_number.true

pub returns-then-is_reduced_number-clause-ok : goal.returns-then-is_reduced_number-clause-ok
returns-then-is_reduced_number-clause-ok c = (number_kept (base_in (tree_of c.args.power c.args.pool.now)) (exponent_in (tree_of c.args.power c.args.pool.now)) (sym (ap is_number c.base_id-base.ensures.tree) ∙ sym c.is_reduced_number.ensures ∙ c.if-is_reduced_number.true) (ap is_whole_num c.requires.exponent ∙ whole_is c.args.n), c.in_ok-answer.ensures.ok)

pub with_number-requires-clause-room : goal.with_number-requires-clause-room
with_number-requires-clause-room c = one_room (tree_of c.args.power c.args.pool.now) _ _ c.requires.sides.power c.requires.exponent (one_value c.whole.result c.whole.ensures)

pub returns-then-n-eq0-clause-ok : goal.returns-then-n-eq0-clause-ok
returns-then-n-eq0-clause-ok c =
    let z = zero_bits c.args.n c.requires.fits c.if-n-eq0.true in (
      zero_kept (base_in (tree_of c.args.power c.args.pool.now)) (exponent_in (tree_of c.args.power c.args.pool.now)) c.args.n c.requires.exponent z,
      gives_as c.with_number.ensures.gives refl (λ t u. zero_answer _ _ c.args.n t c.requires.exponent z
          (other_power (base_in (tree_of c.args.power c.args.pool.now)) (exponent_in (tree_of c.args.power c.args.pool.now)) c.requires.sides.base_defined c.requires.sides.exponent_defined (sym (ap is_number c.base_id-base.ensures.tree) ∙ sym c.is_reduced_number.ensures ∙ c.if-is_reduced_number.false)) (u ∙ ap num (one_value c.whole.result c.whole.ensures))),
    )

pub returns-then-n-eq1-clause-ok : goal.returns-then-n-eq1-clause-ok
returns-then-n-eq1-clause-ok c =
    let z = one_bits c.args.n c.requires.fits c.if-n-eq1.true in (
      one_kept (base_in (tree_of c.args.power c.args.pool.now)) (exponent_in (tree_of c.args.power c.args.pool.now)) c.args.n c.requires.exponent z,
      gives_as c.take_base.ensures.gives refl (λ t u. one_answer _ _ c.args.n t c.requires.exponent z c.requires.sides.base c.requires.sides.base_defined
          (other_power (base_in (tree_of c.args.power c.args.pool.now)) (exponent_in (tree_of c.args.power c.args.pool.now)) c.requires.sides.base_defined c.requires.sides.exponent_defined (sym (ap is_number c.base_id-base.ensures.tree) ∙ sym c.is_reduced_number.ensures ∙ c.if-is_reduced_number.false)) u),
    )

pub halve_root-requires-clause-even : goal.halve_root-requires-clause-even
halve_root-requires-clause-even c = ap (λ z. is_even_whole (whole_fraction z)) (told c.args.n c.requires.fits) ∙ even_whole c.args.n (even_bits c.args.n c.requires.fits c.if-n-eq0-2.true) (no_zero_bits c.args.n c.if-n-eq0.false)

pub halve_root-requires-clause-root : goal.halve_root-requires-clause-root
halve_root-requires-clause-root c = sym (ap is_root c.base_id-base.ensures.tree) ∙ sym c.is_root.ensures ∙ c.if-is_root.true

pub halve_root-requires-clause-number : goal.halve_root-requires-clause-number
halve_root-requires-clause-number c = sym (ap is_number c.base_id-base.ensures.tree) ∙ sym c.is_reduced_number.ensures ∙ c.if-is_reduced_number.false

pub returns-then-is_root-clause-ok : goal.returns-then-is_root-clause-ok
returns-then-is_root-clause-ok c = again (tree_of c.args.power c.args.pool.now) c.requires.sides.power c.halve_root.ensures.gives

pub power_inside-requires-clause-inside : goal.power_inside-requires-clause-inside
power_inside-requires-clause-inside c = whole_goes_inside (exponent_in (tree_of c.args.power c.args.pool.now)) c.args.n c.requires.exponent (no_zero_bits c.args.n c.if-n-eq0.false) (no_one_bits c.args.n c.if-n-eq1.false)

pub power_inside-requires-clause-number : goal.power_inside-requires-clause-number
power_inside-requires-clause-number c = no_number (base_in (tree_of c.args.power c.args.pool.now)) (exponent_in (tree_of c.args.power c.args.pool.now)) (sym (ap is_number c.base_id-base.ensures.tree) ∙ sym c.is_reduced_number.ensures ∙ c.if-is_reduced_number.false)

pub power_inside-requires-clause-root : goal.power_inside-requires-clause-root
power_inside-requires-clause-root c = grind (arith, odd_root_kept, odd_bits)

pub returns-in_err-answer : goal.returns-in_err-answer
returns-in_err-answer c = record {
  ok = none_given c.from_residual.result _ c.from_residual.ensures.0;
  overflow = passed_on c.from_residual.result c.in_err-answer.field-0.0 _ c.from_residual.ensures.0 c.from_residual.ensures.1 c.in_err-answer.ensures.overflow;
  front = c.irrational_power.ensures.front;
  kept = none_kept c.from_residual.result _ c.from_residual.ensures.0;
  faults = passed_on c.from_residual.result c.in_err-answer.field-0.0 (Faults c.args.pool.now c.irrational_power.new.pool) c.from_residual.ensures.0 c.from_residual.ensures.1 (c.in_err-answer.ensures.faults);
  caused = passed_on c.from_residual.result c.in_err-answer.field-0.0 (IsCaused c.irrational_power.new.pool) c.from_residual.ensures.0 c.from_residual.ensures.1 c.in_err-answer.ensures.caused;
  room = λ gs s.
      let number = sym (ap is_number c.base_id-base.ensures.tree) ∙ sym c.is_reduced_number.ensures ∙ c.if-is_reduced_number.true in
      passed_on c.from_residual.result c.in_err-answer.field-0.0 _ c.from_residual.ensures.0 c.from_residual.ensures.1
      (number_lacks gs (tree_of c.args.power c.args.pool.now) _ c.in_err-answer.field-0.0 number (c.in_err-answer.ensures.room gs (base_spans gs (tree_of c.args.power c.args.pool.now) c.requires.sides.power s)));
  held = λ m. none_given c.from_residual.result _ c.from_residual.ensures.0;
  stands = c.irrational_power.ensures.stands;
}

pub returns-clause-overflow : goal.returns-clause-overflow
returns-clause-overflow c = refused_as c.power_inside.result c.power_inside.ensures.overflow (λ o x. absurd x)

-- ---- what holds it

no_number_base : {A : Type 0} (t b : Tree) → t ≡ b → is_number t ≡ false → is_number b ≡ true → A
no_number_base t b e n m = absurd (cc (ap is_number e, n, m))

pub returns-then-is_reduced_number-clause-held : goal.returns-then-is_reduced_number-clause-held
returns-then-is_reduced_number-clause-held c = λ m.
    subst (λ z. IsNumberPower z (base_in (tree_of c.args.power c.args.pool.now)) (tree_of c.in_ok-answer.answer c.irrational_power.new.pool)) (told c.args.n c.requires.fits) c.in_ok-answer.ensures.held

pub returns-then-n-eq0-clause-held : goal.returns-then-n-eq0-clause-held
returns-then-n-eq0-clause-held c = λ m. no_number_base _ _ c.base_id-base.ensures.tree (sym c.is_reduced_number.ensures ∙ c.if-is_reduced_number.false) m

pub returns-then-n-eq1-clause-held : goal.returns-then-n-eq1-clause-held
returns-then-n-eq1-clause-held c = λ m. no_number_base _ _ c.base_id-base.ensures.tree (sym c.is_reduced_number.ensures ∙ c.if-is_reduced_number.false) m

pub returns-then-is_root-clause-held : goal.returns-then-is_root-clause-held
returns-then-is_root-clause-held c = λ m. tt

pub returns-clause-held : goal.returns-clause-held
returns-clause-held c = λ m. no_number_base _ _ c.base_id-base.ensures.tree (sym c.is_reduced_number.ensures ∙ c.if-is_reduced_number.false) m
