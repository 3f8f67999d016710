use Rattle.coefficients.proofs.{Shared.{KeepsRefusals, Stands, add, children_of, forest, rational_times, tree_of, value_of}, Loops.{IsPart}}
use Rattle.coefficients.proofs.multiples.rational_times_number.Given as goal

abbrev pub invariant-loop-at : goal.invariant-loop-at
invariant-loop-at l = record {
  stands : Stands l.pool;
  kept : KeepsRefusals l.fn.pool l.pool;
  part : IsPart add (rational_times (value_of l.q)) l.sum l.at (children_of (tree_of l.sum l.fn.pool)) (forest l.fn.pool) (forest l.pool);
}
