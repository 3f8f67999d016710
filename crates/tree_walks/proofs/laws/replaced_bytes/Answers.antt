use Rattle.tree_walks.proofs.Composing as composing
use Rattle.tree_walks.proofs.laws.replaced_bytes.Goals as goal

pub returns : goal.returns
returns c = composing.bytes_of_replaced
