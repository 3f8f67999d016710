use Rattle.tree_walks.proofs.Composing as composing
use Rattle.tree_walks.proofs.laws.names_of_replaced.Goals as goal

pub returns : goal.returns
returns c = composing.names_of_replaced
