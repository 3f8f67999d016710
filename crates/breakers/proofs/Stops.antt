-- Checks up to one at which a calculation stops.
use Rattle.breakers.proofs.Shared.{◌≡◌, ◌↔◌, ℕ, ◌+◌, ◌≤◌, ◌<◌, List, Some, None, arith, refl, Check, CalmChecks, CalmUpTo, TripsRose, TripsWithin, State}
use Rattle.breakers.proofs.Runs.{only_the_tripped_rose, CalmChecks-append}

pub one_calm : (old new : List State) → Check old new None → CalmChecks 1 old new
one_calm old new c = (new, c, refl)

pub calm_up_to : (n most : ℕ) (old new : List State) → 1 ≤ n → n ≤ most → CalmChecks n old new → CalmUpTo most old new
calm_up_to n most old new s f c = record { checks = n; some = s; few = f; calm = c }

pub calm_more : {n m : ℕ} {old new : List State} → CalmUpTo n old new → n ≤ m → CalmUpTo m old new
calm_more h l = record { checks = h.checks; some = h.some; few = omega (arith, h.few); calm = h.calm }

pub calm_up_to_after : (n most : ℕ) (old between new : List State) → CalmChecks n old between → CalmUpTo most between new → CalmUpTo (n + most) old new
calm_up_to_after n most old between new c h = record { checks = n + h.checks; some = omega (arith, h.some); few = omega (arith, h.few); calm = CalmChecks-append n h.checks old between new c h.calm }

pub trips_after : (n most : ℕ) (old between new : List State) (place : ℕ) → n < most → CalmChecks n old between → Check between new (Some place) → TripsWithin most old new place
trips_after n most old between new place l c t = record { passed = n; few = l; between = between; calm = c; trips = t }

pub trips_at_once : (most : ℕ) (old new : List State) (place : ℕ) → 1 ≤ most → Check old new (Some place) → TripsWithin most old new place
trips_at_once most old new place s t = trips_after 0 most old old new place (omega arith) refl t

pub trips_more : {n m place : ℕ} {old new : List State} → TripsWithin n old new place → n ≤ m → TripsWithin m old new place
trips_more h l = record { passed = h.passed; few = omega (arith, h.few); between = h.between; calm = h.calm; trips = h.trips }

pub trips_within_after : (n most : ℕ) (old between new : List State) (place : ℕ) → CalmChecks n old between → TripsWithin most between new place → TripsWithin (n + most) old new place
trips_within_after n most old between new place c h = trips_after (n + h.passed) (n + most) old h.between new place (omega (arith, h.few)) (CalmChecks-append n h.passed old between h.between c h.calm) h.trips

-- whether a breaker tripped shows in the trips
pub tripped_rose : (most : ℕ) (old new : List State) (by place : ℕ) → TripsWithin most old new by → (place ≡ by) ↔ TripsRose old new place
tripped_rose most old new by place h = only_the_tripped_rose h.passed old h.between new by place h.calm h.trips
