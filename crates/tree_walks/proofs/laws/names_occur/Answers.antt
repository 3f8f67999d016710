use Rattle.tree_walks.proofs.Composing as composing
use Rattle.tree_walks.proofs.laws.names_occur.Goals as goal

pub returns : goal.returns
returns c = composing.occurs_where_named
