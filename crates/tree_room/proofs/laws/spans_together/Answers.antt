use Rattle.tree_room.proofs.JoinedSpans.{tree_first, tree_second, trees_first, trees_second}
use Rattle.tree_room.proofs.laws.spans_together.Goals as goal

pub returns : goal.returns
returns c = record { first = tree_first; second = tree_second; first_list = trees_first; second_list = trees_second }
