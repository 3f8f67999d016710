use Rattle.poincare_run.proofs.{Shared.{refl}, StatusLemmas.{early_too, nothing_stops, summed_ends}}
use Rattle.poincare_run.proofs.top.answer.Goals as goal

pub returns-in-Some-clause-ends : goal.returns-in-Some-clause-ends
returns-in-Some-clause-ends g c = rw c.in-Some.is (summed_ends _ c.in-Some.number _ c.sum_up.result _ _ c.sum_up.ensures.sums c.sum_up.ensures.sort)

pub returns-in-Some-clause-reads : goal.returns-in-Some-clause-reads
returns-in-Some-clause-reads g c = nothing_stops _ _ _ c.sum_up.result c.sum_up.ensures.sort

pub returns-in-Some-clause-untouched : goal.returns-in-Some-clause-untouched
returns-in-Some-clause-untouched g c = early_too c.sum_up.result _ _ refl c.sum_up.ensures.untouched
