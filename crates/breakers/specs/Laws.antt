-- What checks that follow one another keep.
use Rattle.std.specs.Prelude.{◌≡◌, ◌≢◌, ◌↔◌, ℕ, Option, Some, List, All}
use Rattle.breakers.specs.{State.{State}, Breakers.{Check, CalmChecks, TripsRose}, declared.breaker.Plan.TheVariants.{Untold}}

-- the breaker tells its plan
abbrev pub TellsPlan : State → Type 0
TellsPlan b = b.plan ≢ Untold

-- where each breaker tells its plan, a check has one outcome, and each tells its plan after it
abbrev pub ToldChecksHaveOneOutcome : Type 0
ToldChecksHaveOneOutcome =
    (old new other : List State) (out out' : Option ℕ) → All TellsPlan old → Check old new out → Check old other out'
    → (other ≡ new) × (out' ≡ out) × All TellsPlan new

-- calm checks raise no trips
abbrev pub CalmChecksRaiseNoTrips : Type 0
CalmChecksRaiseNoTrips = (n : ℕ) (old new : List State) (place : ℕ) → CalmChecks n old new → ¬ TripsRose old new place

-- where a breaker trips after calm checks, its trips alone rose, from the first check to the last
abbrev pub OnlyTheTrippedRose : Type 0
OnlyTheTrippedRose =
    (n : ℕ) (old between new : List State) (by place : ℕ) → CalmChecks n old between → Check between new (Some by)
    → (place ≡ by) ↔ TripsRose old new place
