use Rattle.power_reduce.proofs.Shared.{rules, ◌≡◌, ◌≤◌, refl, sym, ap, ◌∙◌, arith, subst, pos, ◌≤ℤ◌, classes, value, IfValue, IsNoLargerThanInverse, plain, last_tree, SpansTree, SpansInverse}
use Rattle.power_reduce.proofs.Shared.{replaced_free, if_map, passed_on, tree_of, forest, behind_first, behind_new, front_same, front_at, front_end, front_without, front_after_one, gives_as}
use Rattle.power_reduce.proofs.Shared.{given_handed, given_rest, given_told, base_in, overflow_as, refused_as, is_number, faults_after, keeps_on, none_given, none_kept, kept_after, IsCaused, Faults}
use Rattle.power_reduce.proofs.{HeldPowers.{negative_power, no_number_power}, Powers.{power_is}, Rooms.{lacks_as, inverse_lacks_power}, Misfits.{inverse_misfit, negative_misfit, raised_misfit}}
use Rattle.power_reduce.proofs.{NumberPowers.{irrational_power, inverse_answer, inverse_given, has_inverse}, RationalPowers.{opposite, opposite_above}, numbers.negative_power.Goals.{Else-classes-gt2}}
use Rattle.power_reduce.proofs.numbers.negative_power.Goals as goal

pub returns-then-classes-gt2-clause-front : goal.returns-then-classes-gt2-clause-front
returns-then-classes-gt2-clause-front c = front_end c.move_last.ensures.last (front_without behind_first front_same)

pub invert_number-requires-clause-handed : goal.invert_number-requires-clause-handed
invert_number-requires-clause-handed c = given_handed c.take_base-base.ensures.gives

pub invert_number-requires-clause-number : goal.invert_number-requires-clause-number
invert_number-requires-clause-number c = ap is_number (given_told c.take_base-base.ensures.gives) ∙ c.requires.number

pub power_number-requires : goal.power_number-requires
power_number-requires c = record {
  stands = search rules;
  handed = given_handed (inverse_given c.take_base-base.result _ (forest c.take_base-base.new.pool) _ _ _ c.in-Value.is c.in_ok-inverse.ensures.ok);
  number = (given_told (inverse_given c.take_base-base.result _ (forest c.take_base-base.new.pool) _ _ _ c.in-Value.is c.in_ok-inverse.ensures.ok)).number;
  positive = subst (λ z. pos 1 ≤ℤ z) (sym (opposite c.args.n c.requires.fits c.requires.negative)) (opposite_above c.args.n c.requires.negative);
}

pub unreachable-requires : goal.unreachable-requires
unreachable-requires c =
    let n : c.classes.result ≡ classes (base_in (tree_of c.args.power c.args.pool.now)) = c.classes.ensures ∙ ap classes c.base_id.ensures.tree in
    has_inverse c.take_base-base.result _ _ (forest c.take_base-base.new.pool) _ _ (given_told c.take_base-base.ensures.gives) c.requires.number c.requires.base (omega (arith, n, c.if-classes-gt2.false)) c.in_ok-inverse.ensures.ok (λ h e. c.in_default.not-Value h e)

pub returns-clause-ok : goal.returns-clause-ok
returns-clause-ok c =
    let g = c.take_base-base.ensures.gives in
    let i = inverse_given c.take_base-base.result _ (forest c.take_base-base.new.pool) _ _ _ c.in-Value.is c.in_ok-inverse.ensures.ok in
    let n : c.classes.result ≡ classes (base_in (tree_of c.args.power c.args.pool.now)) = c.classes.ensures ∙ ap classes c.base_id.ensures.tree in
    let few : classes (base_in (tree_of c.args.power c.args.pool.now)) ≤ 2 = omega (arith, n, c.if-classes-gt2.false) in
    if_map c.power_number.result _ _ c.power_number.ensures.ok (λ h k. gives_as k (given_rest i ∙ given_rest g) (λ t n.
    inverse_answer _ _ _ t _ _ c.args.n c.requires.exponent c.requires.negative few c.requires.number
    (irrational_power _ _ c.requires.number c.requires.base c.requires.sides.exponent_defined) (given_told g) (opposite c.args.n c.requires.fits c.requires.negative) (given_told i).inverts n))

pub returns-clause-front : goal.returns-clause-front
returns-clause-front c =
    let i = inverse_given c.take_base-base.result _ (forest c.take_base-base.new.pool) _ _ _ c.in-Value.is c.in_ok-inverse.ensures.ok in
    let front = front_after_one (behind_new c.take_base-base.ensures.gives.ends (front_without behind_first front_same)) c.take_base-base.ensures.front c.invert_number.ensures.front in
    let rest = front_at (front_without (behind_new c.take_base-base.ensures.gives.ends (front_without behind_first front_same)) c.take_base-base.ensures.front) refl in
    front_after_one (behind_new i.ends rest) front c.power_number.ensures.front

few : (c : Else-classes-gt2) → classes (base_in (tree_of c.args.power c.args.pool.now)) ≤ 2
few c = omega (arith, c.classes.ensures, ap classes c.base_id.ensures.tree, c.if-classes-gt2.false)

pub returns-in_err-inverse : goal.returns-in_err-inverse
returns-in_err-inverse c = record {
  ok = none_given c.from_residual.result _ c.from_residual.ensures.0;
  overflow =
      passed_on c.from_residual.result c.in_err-inverse.field-0.0 _ c.from_residual.ensures.0 c.from_residual.ensures.1 (overflow_as c.in_err-inverse.field-0.0 c.in_err-inverse.ensures.overflow
      (λ o h. inverse_misfit _ _ _ c.args.n o c.requires.exponent c.requires.negative (few (goal.at.returns-in_err-inverse c).Else-classes-gt2) c.requires.number c.requires.base (given_told c.take_base-base.ensures.gives) h));
  front = front_after_one (behind_new c.take_base-base.ensures.gives.ends (front_without behind_first front_same)) c.take_base-base.ensures.front c.invert_number.ensures.front;
  kept = none_kept c.from_residual.result _ c.from_residual.ensures.0;
  faults = passed_on c.from_residual.result c.in_err-inverse.field-0.0 (Faults c.args.pool.now c.invert_number.new.pool) c.from_residual.ensures.0 c.from_residual.ensures.1 (faults_after _ c.in_err-inverse.field-0.0 c.take_base-base.ensures.kept c.in_err-inverse.ensures.faults);
  caused = passed_on c.from_residual.result c.in_err-inverse.field-0.0 (IsCaused c.invert_number.new.pool) c.from_residual.ensures.0 c.from_residual.ensures.1 c.in_err-inverse.ensures.caused;
  room = λ gs s.
      let freed = replaced_free c.requires.stands c.take_base-base.ensures.stands c.take_base-base.ensures.kept c.requires.handed c.take_base-base.ensures.gives in
      passed_on c.from_residual.result c.in_err-inverse.field-0.0 _ c.from_residual.ensures.0 c.from_residual.ensures.1
      (inverse_lacks_power gs c.in_err-inverse.field-0.0 (sym freed) (c.in_err-inverse.ensures.room gs));
  held = none_given c.from_residual.result _ c.from_residual.ensures.0;
  stands = c.invert_number.ensures.stands;
}

pub returns-clause-overflow : goal.returns-clause-overflow
returns-clause-overflow c =
    let i = inverse_given c.take_base-base.result _ (forest c.take_base-base.new.pool) _ _ _ c.in-Value.is c.in_ok-inverse.ensures.ok in
    let y = opposite c.args.n c.requires.fits c.requires.negative in
    refused_as c.power_number.result
    (raised_misfit _ _ c.power_number.new.pool c.power_number.result (subst (λ z. pos 1 ≤ℤ z) (sym y) (opposite_above c.args.n c.requires.negative)) c.power_number.ensures.rational c.power_number.ensures.overflow)
    (λ o h. negative_misfit _ _ _ _ _ c.args.n o c.requires.exponent c.requires.negative (few (goal.at.returns-clause-overflow c).Else-classes-gt2) c.requires.number c.requires.base
    (given_told c.take_base-base.ensures.gives) y (given_told i) h)

-- ---- bytes at hand

pub returns-clause-room : goal.returns-clause-room
returns-clause-room c = λ gs s.
    let g = c.take_base-base.ensures.gives in
    let i = inverse_given c.take_base-base.result _ (forest c.take_base-base.new.pool) _ _ _ c.in-Value.is c.in_ok-inverse.ensures.ok in
    let freed = replaced_free c.requires.stands c.take_base-base.ensures.stands c.take_base-base.ensures.kept c.requires.handed g in
    let inverted = replaced_free c.take_base-base.ensures.stands c.in_ok-inverse.ensures.stands c.in_ok-inverse.ensures.kept (given_handed g) i in
    let spans = subst (SpansInverse gs c.invert_number.new.pool) c.in-Value.is (c.in_ok-inverse.ensures.spanned gs (subst (SpansTree gs) (sym (given_told g)) s)) in
    lacks_as gs c.power_number.result (sym (inverted ∙ freed)) (omega arith) (c.power_number.ensures.room gs spans)

-- ---- what holds it

pub returns-then-classes-gt2-clause-held : goal.returns-then-classes-gt2-clause-held
returns-then-classes-gt2-clause-held c = no_number_power _ _ _ (ap plain (last_tree c.move_last.ensures.last) ∙ power_is (tree_of c.args.power c.args.pool.now) c.requires.sides.power)

pub returns-clause-held : goal.returns-clause-held
returns-clause-held c =
    let measured = subst (λ x. IfValue x (λ h. IsNoLargerThanInverse (value (tree_of c.take_base-base.result c.take_base-base.new.pool)) (value (tree_of h c.invert_number.new.pool)))) c.in-Value.is c.in_ok-inverse.ensures.measured in
    if_map c.power_number.result _ _ c.power_number.ensures.measured (λ h m k.
    negative_power c.args.n _ _ _ _ _ c.requires.negative (opposite c.args.n c.requires.fits c.requires.negative) (given_told c.take_base-base.ensures.gives) measured m)

pub returns-clause-kept : goal.returns-clause-kept
returns-clause-kept c = keeps_on _ c.power_number.result (kept_after c.take_base-base.ensures.kept c.in_ok-inverse.ensures.kept) c.power_number.ensures.kept
