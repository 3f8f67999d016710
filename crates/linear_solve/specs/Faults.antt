-- Why equations are not solved.
use Rattle.std.specs.Prelude.{ℕ, List, ⊤}
use Rattle.breakers.specs.{Breakers.{CalmChecks, TripsWithin}, State.{State}}
use Rattle.rational128.specs.declared.overflow.Overflow.{Overflow}
use Rattle.linear_solve.specs.declared.fault.SolveFault.{SolveFault}
use Rattle.linear_solve.specs.declared.fault.SolveFault.TheVariants as fault

-- a fact of the operation where one does not fit
abbrev pub OfOverflow : (Overflow → Type 0) → SolveFault → Type 0
OfOverflow P (fault.Overflow o) = P o
OfOverflow P (fault.Interrupted i) = ⊤

-- the checks that were made: so many before an operation that does not fit, and at most so many where a breaker trips in the last
abbrev pub StopsAfter : ℕ → List State → List State → SolveFault → Type 0
StopsAfter checks old new (fault.Overflow o) = CalmChecks checks old new
StopsAfter checks old new (fault.Interrupted i) = TripsWithin checks old new i.by
