-- Checks that follow one another.
use Rattle.breakers.proofs.Shared.{◌↔◌, ℕ, zero, suc, ◌+◌, List, [], ◌∷◌, false, Some, None, sym, subst, arith, zero-add, suc-add, State, Polls, Check, CalmChecks, TripsRose, CalmChecksRaiseNoTrips}
use Rattle.breakers.proofs.{Shared.{OnlyTheTrippedRose}, Polling.{unpolled, tripped_rises}}

-- a calm check leaves all trips as they were
after-calm : (old mid new : List State) (place : ℕ) → Check old mid None
    → TripsRose mid new place ↔ TripsRose old new place
after-calm [] [] new place c = (λ r. r, λ r. r)
after-calm [] (m ∷ ms) new place c = absurd c
after-calm (o ∷ os) [] new place c = absurd c
after-calm (o ∷ os) (m ∷ ms) [] place c = (λ r. r, λ r. r)
after-calm (o ∷ os) (m ∷ ms) (n ∷ ns) zero c = let p : Polls o m false = c.0 in (λ r. omega arith, λ r. omega arith)
after-calm (o ∷ os) (m ∷ ms) (n ∷ ns) (suc place) c = after-calm os ms ns place c.1

pub calm_checks_raise_no_trips : CalmChecksRaiseNoTrips
calm_checks_raise_no_trips zero old new place c r = unpolled old new place c r
calm_checks_raise_no_trips (suc n) old new place (mid, c, cs) r = calm_checks_raise_no_trips n mid new place cs ((after-calm old mid new place c).1 r)

pub only_the_tripped_rose : OnlyTheTrippedRose
only_the_tripped_rose zero old between new by place e t =
    let (there, back) = tripped_rises old new by place (subst (λ s. Check s new (Some by)) e t) in
    (λ e. there (sym e), λ r. sym (back r))
only_the_tripped_rose (suc n) old between new by place (mid, c, cs) t =
    let (there, back) = only_the_tripped_rose n mid between new by place cs t in
    let (later, earlier) = after-calm old mid new place c in
    (λ e. later (there e), λ r. back (earlier r))

-- calm checks after calm checks
pub CalmChecks-append : (m n : ℕ) (old between new : List State) → CalmChecks m old between
    → CalmChecks n between new → CalmChecks (m + n) old new
CalmChecks-append zero n old between new e d = rw zero-add (subst (λ s. CalmChecks n s new) e d)
CalmChecks-append (suc m) n old between new (mid, c, cs) d = rw suc-add (mid, c, CalmChecks-append m n mid between new cs d)
