use Rattle.coefficients.proofs.Shared.{◌∙◌, sym, ap, refl, arith, released_free, rational, ratio_of, value_of, num, behind_first, front_after, front_at, front_end, front_same, front_without, gives}
use Rattle.coefficients.proofs.{Shared.{gives_as, owned, represents_handed, if_map, counted, tree_of, zero_value}, Puttings.{with_zero, with_one, with_other}, Free.{number_refused}}
use Rattle.coefficients.proofs.{Lacks.{refusal_lacks}, Rooms.{few_for_put}}
use Rattle.calc_terms.proofs.SmallLaws.{passed_on}
use Rattle.coefficients.specs.Overflows.{NamesPut}
use Rattle.number_forms.proofs.Refusals.{none_given, none_kept}
use Rattle.tree_handles.proofs.Refused.{kept_after, refuses_after}
use Rattle.tree_handles.specs.Causes.{IsCaused}
use Rattle.tree_handles.specs.Faults.{Faults, OfOverflow}
use Rattle.tree_handles.specs.declared.fault.NumberFault.TheVariants as fault
use Rattle.coefficients.proofs.putting.put_rational.Goals as goal

pub returns-in_err-number-clause-front : goal.returns-in_err-number-clause-front
returns-in_err-number-clause-front c =
    front_after (front_at (front_without behind_first front_same) (c.release.ensures.owned (owned c.requires.handed))) c.number.ensures.front

pub returns-then-is_zero-clause-ok : goal.returns-then-is_zero-clause-ok
returns-then-is_zero-clause-ok c =
    gives_as c.in_ok-number.ensures.given (c.release.ensures.owned (owned c.requires.handed))
    (λ t e. e ∙ ap num (zero_value c.whole.result c.whole.ensures) ∙ with_zero (value_of c.args.q) _ (sym c.if-is_zero.ensures))

pub returns-then-is_zero-clause-front : goal.returns-then-is_zero-clause-front
returns-then-is_zero-clause-front c =
    front_after (front_at (front_without behind_first front_same) (c.release.ensures.owned (owned c.requires.handed))) c.number.ensures.front

pub returns-then-is_one-clause-ok : goal.returns-then-is_one-clause-ok
returns-then-is_one-clause-ok c =
    gives c.move_last.ensures.last (represents_handed c.requires.handed) (with_one (value_of c.args.q) _ (sym c.if-is_zero.ensures) (sym c.if-is_one.ensures))

pub returns-then-is_one-clause-front : goal.returns-then-is_one-clause-front
returns-then-is_one-clause-front c = front_end c.move_last.ensures.last (front_without behind_first front_same)

pub returns-clause-ok : goal.returns-clause-ok
returns-clause-ok c =
    if_map c.put_other_rational.result _ _ c.put_other_rational.ensures.ok
    (λ h x. gives_as x refl (λ t e. e ∙ with_other (value_of c.args.q) _ (sym c.if-is_zero.ensures) (sym c.if-is_one.ensures)))

pub returns-in_err-number-clause-room : goal.returns-in_err-number-clause-room
returns-in_err-number-clause-room c gs s =
    let more = released_free c.requires.stands c.release.ensures.stands c.release.ensures.kept c.requires.handed (c.release.ensures.owned (owned c.requires.handed)) in
    refusal_lacks c.from_residual.result c.in_err-number.field-0.0 _ c.from_residual.ensures.1
    (few_for_put gs (counted (tree_of c.args.part c.args.pool.now)) _ (omega (arith, number_refused (rational (ratio_of c.whole.result)) c.in_err-number.ensures.full, more)))

pub returns-clause-room : goal.returns-clause-room
returns-clause-room c gs s = c.put_other_rational.ensures.room gs (sym c.if-is_zero.ensures) (sym c.if-is_one.ensures) s

pub returns-in_err-number-clause-ok : goal.returns-in_err-number-clause-ok
returns-in_err-number-clause-ok c = none_given c.from_residual.result _ c.from_residual.ensures.0

pub returns-in_err-number-clause-kept : goal.returns-in_err-number-clause-kept
returns-in_err-number-clause-kept c = none_kept c.from_residual.result _ c.from_residual.ensures.0

pub returns-in_err-number-clause-faults : goal.returns-in_err-number-clause-faults
returns-in_err-number-clause-faults c = passed_on c.from_residual.result (fault.Full c.in_err-number.field-0.0) (Faults c.args.pool.now c.number.new.pool) c.from_residual.ensures.0 c.from_residual.ensures.1 (refuses_after c.release.ensures.kept c.in_err-number.ensures.full.refuses)

pub returns-in_err-number-clause-caused : goal.returns-in_err-number-clause-caused
returns-in_err-number-clause-caused c = passed_on c.from_residual.result (fault.Full c.in_err-number.field-0.0) (IsCaused c.number.new.pool) c.from_residual.ensures.0 c.from_residual.ensures.1 (c.in_err-number.ensures.full.lacks)

pub returns-in_err-number-clause-named : goal.returns-in_err-number-clause-named
returns-in_err-number-clause-named c = passed_on c.from_residual.result (fault.Full c.in_err-number.field-0.0) (OfOverflow (NamesPut (num (value_of c.args.q)) (tree_of c.args.part c.args.pool.now))) c.from_residual.ensures.0 c.from_residual.ensures.1 (tt)

pub returns-then-is_zero-clause-kept : goal.returns-then-is_zero-clause-kept
returns-then-is_zero-clause-kept c = kept_after c.release.ensures.kept c.in_ok-number.ensures.kept
