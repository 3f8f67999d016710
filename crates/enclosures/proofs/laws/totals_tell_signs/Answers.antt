use Rattle.enclosures.proofs.Near.{near_zero, tells_negative, tells_positive}
use Rattle.enclosures.proofs.laws.totals_tell_signs.Goals as goal

pub returns : goal.returns
returns c = record { positive = tells_positive; negative = tells_negative; left_open = near_zero }
