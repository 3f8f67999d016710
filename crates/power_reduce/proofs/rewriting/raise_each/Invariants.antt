use Rattle.power_reduce.proofs.{Shared.{KeepsRefusals, Stands, children_of, forest, mult, tree_of, IsPart}, Raising.{to_power}}
use Rattle.power_reduce.proofs.rewriting.raise_each.Given as goal

abbrev pub invariant-loop-at : goal.invariant-loop-at
invariant-loop-at l = record {
  stands : Stands l.pool;
  kept : KeepsRefusals l.fn.pool l.pool;
  part : IsPart mult (to_power (tree_of l.exponent l.fn.pool)) l.product l.at (children_of (tree_of l.product l.fn.pool)) (forest l.fn.pool) (forest l.pool);
}
