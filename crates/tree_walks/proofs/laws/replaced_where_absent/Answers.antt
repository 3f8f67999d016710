use Rattle.tree_walks.proofs.Composing as composing
use Rattle.tree_walks.proofs.laws.replaced_where_absent.Goals as goal

pub returns : goal.returns
returns c = composing.stays_where_absent
