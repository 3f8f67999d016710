-- Sources in memory, as a caller sees them.
use Rattle.std.specs.Prelude.{ℕ, List}
use Rattle.calc_edges.specs.declared.failures.Failures.{Failures}

-- the bytes left, how many a call gives at most, the numbers of the calls that fail, how many calls were made, and how many failed
pub record SourceState : Type 0 where
  pub left : List ℕ
  pub piece : ℕ
  pub failing : List ℕ
  pub calls : ℕ
  pub faults : Failures
