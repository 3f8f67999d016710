use Rattle.tree_handles.proofs.{Given.{given_handed}, Roots.{root_held}}
use Rattle.acceptance.proofs.tests.reduced_lines.trials.nodes_of.Goals as goal

pub tree_nodes-requires-clause-live : goal.tree_nodes-requires-clause-live
tree_nodes-requires-clause-live c = rw c.id.ensures (root_held c.in-Some.tree _ (given_handed c.in-Some.ensures.gives).root)
