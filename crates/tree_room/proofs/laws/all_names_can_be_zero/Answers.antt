use Rattle.tree_room.proofs.Zeros.{each_once}
use Rattle.tree_room.proofs.laws.all_names_can_be_zero.Goals as goal

pub returns : goal.returns
returns c = λ ns. let o = each_once ns in (o.names, o.once, o.all)
