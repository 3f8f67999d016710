-- Sinks in memory, as a caller sees them.
use Rattle.std.specs.Prelude.{ℕ, List}
use Rattle.calc_edges.specs.declared.failures.Failures.{Failures}

-- the bytes taken, the room left, how many a write takes at most, the numbers of the writes that fail, how many writes were made, and how many failed
pub record SinkState : Type 0 where
  pub taken : List ℕ
  pub room : ℕ
  pub piece : ℕ
  pub failing : List ℕ
  pub calls : ℕ
  pub faults : Failures
