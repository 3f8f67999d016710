-- Counts of failures. A count never falls, and it stops at 2 ^ 64 - 1.
use Rattle.std.specs.{Prelude.{◌≡◌, ◌⊎◌, ℕ, ◌+◌, ◌-◌, ◌^◌, ◌<◌, ◌≤◌, List, Option, nat_lt, true, false, is_ok, if◌then◌else◌, Result, OnOk, OnErr}, Io.KnownBytes.{Keeps}}
use Rattle.calc_edges.specs.{SourceBytes.{GivesNothing, SourceBytes}, declared.failures.Failures.{Failures}}

-- one more, up to 2 ^ 64 - 1
abbrev pub next_count : ℕ → ℕ
next_count n = if nat_lt n (2 ^ 64 - 1) then n + 1 else n

-- before the first call
abbrev pub no_failures : Failures
no_failures = record { count = 0; at_last = false }

-- a call that does not fail leaves the count
abbrev pub passed : Failures → Failures
passed before = record { count = before.count; at_last = false }

-- one that fails is counted
abbrev pub failed : Failures → Failures
failed before = record { count = next_count before.count; at_last = true }

-- behind a call with this result
abbrev pub counted : {T E : Type 0} → Result T E → Failures → Failures
counted result before = if is_ok result then passed before else failed before

-- no call failed
abbrev pub IsCalm : Failures → Failures → Type 0
IsCalm before now = now.count ≡ before.count

-- the count rose, or it stands at 2 ^ 64 - 1, above which no count goes
abbrev pub Rose : Failures → Failures → Type 0
Rose before now = (before.count < now.count) ⊎ (2 ^ 64 - 1 ≤ now.count)

-- no call failed where there is no error, and an error comes only where the count rose. It never falls
pub record HasCause {T E : Type 0} (before now : Failures) (result : Result T E) : Type 0 where
  pub later : before.count ≤ now.count
  pub calm : OnOk result (IsCalm before now)
  pub failed : OnErr result (Rose before now)

-- The first failure was the last thing that came of it: one call more has failed, and it was the last call of all. In the state before that call nothing had failed, and the bytes were those of now.
pub record StopsKeeping {X Y : Type 0} (IsKept : Y → Y → Type 0) (bytes : X → Y) (faults : X → Failures) (old new : X) : Type 0 where
  pub last : X
  pub calm : IsCalm (faults old) (faults last)
  pub kept : IsKept (bytes last) (bytes new)
  pub once : faults new ≡ failed (faults last)

-- so for a sink, by the bytes that it took
abbrev pub StopsAtFailure : {X : Type 0} → (X → Option (List ℕ)) → (X → Failures) → X → X → Type 0
StopsAtFailure bytes faults old new = StopsKeeping Keeps bytes faults old new

-- and for a source, by those that it gave and has left
abbrev pub StopsAtFailedRead : {X : Type 0} → (X → SourceBytes) → (X → Failures) → X → X → Type 0
StopsAtFailedRead bytes faults old new = StopsKeeping GivesNothing bytes faults old new
