use Rattle.name_table.proofs.Ready.{first_held}
use Rattle.name_table.proofs.laws.a_first_answer_is_held.Goals as goal

pub returns : goal.returns
returns c = first_held
