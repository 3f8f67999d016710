-- Lemmas on what came before the first failure.
use Rattle.calc_edges.proofs.Shared.{◌≡◌, ◌∙◌, ℕ, List, Option, Result, Ok, Err, arith, HasCause, IsCalm, StopsKeeping, counted, Failures}

-- where nothing had failed before, it stopped at the first failure in all
pub stops_later : {X Y : Type 0} {IsKept : Y → Y → Type 0} (bytes : X → Y) (faults : X → Failures) (old middle new : X)
    → IsCalm (faults old) (faults middle) → StopsKeeping IsKept bytes faults middle new → StopsKeeping IsKept bytes faults old new
stops_later bytes faults old middle new calm stops = record { last = stops.last; calm = stops.calm ∙ calm; kept = stops.kept; once = stops.once }

-- a call where nothing had failed before
pub cause_of_call : {T E : Type 0} (before middle now : Failures) (result : Result T E) → IsCalm before middle → now ≡ counted result middle → HasCause before now result
cause_of_call before middle now (Ok x) calm e = record { later = grind (arith, calm, e); calm = grind (arith, calm, e); failed = tt }
cause_of_call before middle now (Err x) calm e = record { later = grind (arith, calm, e); calm = tt; failed = grind (arith, calm, e) }
