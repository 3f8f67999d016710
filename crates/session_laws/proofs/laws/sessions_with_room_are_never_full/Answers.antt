use Rattle.session_laws.proofs.RoomLemmas.{never_full}
use Rattle.session_laws.proofs.laws.sessions_with_room_are_never_full.Goals as goal

pub returns : goal.returns
returns c = never_full
