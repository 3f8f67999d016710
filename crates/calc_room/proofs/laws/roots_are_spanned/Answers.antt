use Rattle.calc_room.proofs.NumberSpans.{spanned_left, spanned_itself}
use Rattle.calc_room.proofs.laws.roots_are_spanned.Goals as goal

pub returns-clause-left : goal.returns-clause-left
returns-clause-left c = spanned_left

pub returns-clause-itself : goal.returns-clause-itself
returns-clause-itself c = spanned_itself
