use Rattle.expand_forms.proofs.{Shared.{◌≤◌, length, names, plain, tree_at, forest, AreNames}, NamedNodes.{AreCollected}}
use Rattle.expansions.specs.Named.{names_of}
use Rattle.expand_forms.proofs.naming.collect_names.Given as goal

abbrev pub invariant-loop-node : goal.invariant-loop-node
invariant-loop-node l = record {
  collected : AreCollected (names_of l.names.items) l.node-iterator (names (plain (tree_at l.fn.tree (forest l.pool)))) (forest l.pool);
  rising : AreNames (names_of l.names.items);
  few : length l.names.items ≤ 8;
}
