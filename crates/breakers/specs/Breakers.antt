-- What is done to the breakers of a list, in their order.
use Rattle.std.specs.Prelude.{◌≡◌, ℕ, zero, suc, ◌<◌, ◌≤◌, true, false, Option, Some, None, List, [], ◌∷◌, filter, ◌==◌, if◌then◌else◌}
use Rattle.breakers.specs.State.{State, Polls, armed_after}

-- the breakers are polled in order, either up to the first that trips, which stands at this place, or all, and none trips
abbrev pub Check : List State → List State → Option ℕ → Type 0
Check [] [] None = Unit {0}
Check (b ∷ bs) (c ∷ cs) None = Polls b c false × Check bs cs None
Check (b ∷ bs) (c ∷ cs) (Some zero) = Polls b c true × (cs ≡ bs)
Check (b ∷ bs) (c ∷ cs) (Some (suc place)) = Polls b c false × Check bs cs (Some place)
Check _ _ _ = ⊥

-- so many checks in a row, and no breaker trips
abbrev pub CalmChecks : ℕ → List State → List State → Type 0
CalmChecks zero old new = new ≡ old
CalmChecks (suc n) old new = (between : List State) × Check old between None × CalmChecks n between new

-- at least one check was made and at most so many, and no breaker tripped
pub record CalmUpTo (most : ℕ) (old new : List State) : Type 0 where
  pub checks : ℕ
  pub some : 1 ≤ checks
  pub few : checks ≤ most
  pub calm : CalmChecks checks old new

-- in one of at most so many checks the breaker at this place tripped, and nothing was checked after it
pub record TripsWithin (most : ℕ) (old new : List State) (place : ℕ) : Type 0 where
  pub passed : ℕ
  pub few : passed < most
  pub between : List State
  pub calm : CalmChecks passed old between
  pub trips : Check between new (Some place)

-- the trips of the breaker at this place rose
abbrev pub TripsRose : List State → List State → ℕ → Type 0
TripsRose (b ∷ bs) (c ∷ cs) zero = b.trips < c.trips
TripsRose (b ∷ bs) (c ∷ cs) (suc place) = TripsRose bs cs place
TripsRose _ _ _ = ⊥

-- the first breaker that can be armed is armed
abbrev pub armed_first : ℕ → List State → List State
armed_first k [] = []
armed_first k (b ∷ bs) = if b.can_be_armed then armed_after k b ∷ bs else b ∷ armed_first k bs

-- the breakers that have not tripped
abbrev pub kept : List State → List State
kept bs = filter (λ b. b.trips == 0) bs
