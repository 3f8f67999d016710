-- What the port promises, from how the walk ends.
use Rattle.reduce_walk.proofs.Shared.{arith, ◌≡◌, ◌↔◌, ℕ, List, Result, Ok, Err, refl, sym, ap, IfErr, OnOk, CalmChecks, TripsRose, Tree, nodes, IsUnfitAt, Stops, State, Overflow}
use Rattle.reduce_walk.proofs.Shared.{calm_checks_raise_no_trips, tripped_rose, CalmUpTo, IfFull, IfOverflow, IfInterrupted, CountsRefusals, ReduceFault, KeepsRefusals, Interrupted, Full}
use Rattle.breakers.specs.State.{State as BreakerState}
use Rattle.reduce_port.specs.declared.fault.ReduceFault.TheVariants as fault

by_place : (place : ℕ) (i : Interrupted) (x : Result ℕ ReduceFault) → x ≡ Err (fault.Interrupted i) → x ≡ Err (fault.Interrupted (record { by = place })) → place ≡ i.by
by_place place i x e k = let f : i ≡ record { by = place } = cc in ap (λ (y : Interrupted). y.by) (sym f)

-- ---- facts of a refusal

pub full_as : {P Q : Full → Type 0} (r : Result ℕ ReduceFault) → IfFull r P → ((full : Full) → P full → Q full) → IfFull r Q
full_as r p k = grind arith

pub overflow_as : {P Q : Overflow → Type 0} (r : Result ℕ ReduceFault) → IfOverflow r P → ((o : Overflow) → P o → Q o) → IfOverflow r Q
overflow_as r p k = grind arith

pub unfit_after_checks : {U : Tree → ℕ → Overflow → Type 0} {t : Tree} {before after : List BreakerState} {o : Overflow} → IsUnfitAt U t before after o → CalmUpTo (nodes t) before after
unfit_after_checks u = record { checks = u.place; some = u.some; few = u.few; calm = u.calm }

-- ---- how a walk stops

module _ (L : Tree → ℕ → Type 0) (U : Tree → ℕ → Overflow → Type 0) (r : Result ℕ ReduceFault) (t : Tree) (old new : State) (before after : List BreakerState) where
  pub if_full : (Q : Full → Type 0) → IfErr r (Stops L U t old new before after) → ((full : Full) → Stops L U t old new before after (fault.Full full) → Q full) → IfFull r Q
  if_full Q h k = grind arith

  pub if_overflow : (Q : Overflow → Type 0) → IfErr r (Stops L U t old new before after) → ((o : Overflow) → Stops L U t old new before after (fault.Overflow o) → Q o) → IfOverflow r Q
  if_overflow Q h k = grind arith

  pub if_interrupted : (Q : ℕ → Type 0) → IfErr r (Stops L U t old new before after) → ((i : Interrupted) → Stops L U t old new before after (fault.Interrupted i) → Q i.by) → IfInterrupted r Q
  if_interrupted Q h k = grind arith

  pub counts : OnOk r (KeepsRefusals old new) → IfErr r (Stops L U t old new before after) → CountsRefusals old new r
  counts k h = grind arith

  -- a breaker's trips rose exactly where the walk was interrupted by it
  pub rose : (n : ℕ) → OnOk r (CalmChecks n before after) → IfErr r (Stops L U t old new before after) → (place : ℕ) → (r ≡ Err (fault.Interrupted (record { by = place }))) ↔ TripsRose before after place
  rose n c h place = by r c h
    where
      by : (x : Result ℕ ReduceFault) → OnOk x (CalmChecks n before after) → IfErr x (Stops L U t old new before after) → (x ≡ Err (fault.Interrupted (record { by = place }))) ↔ TripsRose before after place
      by (Ok a) c s = (λ e. cc, λ w. absurd (calm_checks_raise_no_trips n before after place c w))
      by (Err (fault.Full full)) c s = (λ e. cc, λ w. absurd (calm_checks_raise_no_trips s.2.checks before after place s.2.calm w))
      by (Err (fault.Overflow o)) c s = (λ e. cc, λ w. absurd (calm_checks_raise_no_trips s.2.place before after place s.2.calm w))
      by (Err (fault.Interrupted i)) c s =
          let q = tripped_rose _ before after i.by place s.1 in
          (λ e. q.0 (by_place place i _ refl e), λ w. ap (λ (p : ℕ). Err (fault.Interrupted (record { by = p }))) (sym (q.1 w)))
