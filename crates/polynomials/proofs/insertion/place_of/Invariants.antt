use Rattle.polynomials.proofs.Shared.{drop, length, ◌≤◌, StartsFrom}
use Rattle.polynomials.proofs.insertion.place_of.Given as goal

abbrev pub invariant-loop-at : goal.invariant-loop-at
invariant-loop-at l = (l.at ≤ length l.terms) × StartsFrom l.monomial (drop l.at l.terms)

abbrev pub decreases-loop-at : goal.decreases-loop-at
decreases-loop-at l = l.at
