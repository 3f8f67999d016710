use Rattle.tree_room.proofs.Rooms.{reduced_bytes, written_bytes, all_written_bytes, five_times}
use Rattle.tree_room.proofs.laws.answers_are_small.Goals as goal

pub returns : goal.returns
returns c = record { reduced = reduced_bytes; written = written_bytes; all_written = all_written_bytes; five_times = five_times }
