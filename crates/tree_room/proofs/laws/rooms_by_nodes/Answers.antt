use Rattle.tree_room.proofs.Rooms.{room_is, spanned_room}
use Rattle.tree_room.proofs.laws.rooms_by_nodes.Goals as goal

pub returns : goal.returns
returns c = record { simple = room_is; spanned = spanned_room }
