use Rattle.linear_solve.proofs.{Shared.{true, nodes, names_listed, Includes, Rises, children_of, plain, tree_at, forest}, RisingLemmas.{first_names}}
use Rattle.linear_solve.proofs.side_names.+include_names.Given as goal

abbrev pub decreases-include_names : goal.decreases-include_names
decreases-include_names l = nodes (plain (tree_at l.t (forest l.pool.now)))

abbrev pub invariant-loop-at : goal.invariant-loop-at
invariant-loop-at l = record {
  rises : Rises (names_listed l.names.items);
  included : Includes (first_names l.at (children_of (plain (tree_at l.t (forest l.pool))))) (names_listed l.fn.names.items) (names_listed l.names.items) true;
}
