use Rattle.deep_reduce.proofs.Shared.{arith, rational, ratio_of, released_free, number_refused, passed_on, behind_first, front_same, front_at, front_without, front_after, owned}
use Rattle.tree_handles.specs.declared.fault.NumberFault.TheVariants as fault
use Rattle.deep_reduce.proofs.nodes.put.Goals as goal

pub returns-in_err-number-clause-front : goal.returns-in_err-number-clause-front
returns-in_err-number-clause-front c = front_after (front_at (front_without behind_first front_same) (c.release.ensures.owned (owned c.requires.handed))) c.number.ensures.front

pub returns-clause-front : goal.returns-clause-front
returns-clause-front c = front_after (front_at (front_without behind_first front_same) (c.release.ensures.owned (owned c.requires.handed))) c.number.ensures.front

pub returns-in_err-number-clause-room : goal.returns-in_err-number-clause-room
returns-in_err-number-clause-room c =
    let free = released_free c.requires.stands c.release.ensures.stands c.release.ensures.kept c.requires.handed (c.release.ensures.owned (owned c.requires.handed)) in
    passed_on c.from_residual.result (fault.Full c.in_err-number.field-0.0) _ c.from_residual.ensures.0 c.from_residual.ensures.1
    (omega (arith, number_refused (rational (ratio_of c.args.value)) c.in_err-number.ensures.full, free))
