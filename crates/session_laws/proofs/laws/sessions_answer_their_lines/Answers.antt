use Rattle.session_laws.proofs.RoomLemmas.{answered_line}
use Rattle.session_laws.proofs.laws.sessions_answer_their_lines.Goals as goal

pub returns : goal.returns
returns c = answered_line
