use Rattle.square_parts.proofs.Shared.{◌≡◌, HasNoDivisorBelow, number_of, IsFound}
use Rattle.square_parts.proofs.division.Found.divided_by.Given as goal

abbrev pub invariant-loop-found : goal.invariant-loop-found
invariant-loop-found l = record { same : number_of l.found ≡ number_of l.fn.self; found : IsFound l.found; below : HasNoDivisorBelow l.fn.prime l.found.rest }

abbrev pub decreases-loop-found : goal.decreases-loop-found
decreases-loop-found l = l.found.rest
