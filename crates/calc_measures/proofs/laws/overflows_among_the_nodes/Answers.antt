use Rattle.calc_measures.proofs.OverflowNodes.{some_nodes, at_most_all_nodes}
use Rattle.calc_measures.proofs.laws.overflows_among_the_nodes.Goals as goal

pub returns-clause-some : goal.returns-clause-some
returns-clause-some c = some_nodes

pub returns-clause-at_most_all : goal.returns-clause-at_most_all
returns-clause-at_most_all c = at_most_all_nodes
