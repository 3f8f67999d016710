use Rattle.enclosures.proofs.Near.{close_above, close_below, near}
use Rattle.enclosures.proofs.laws.totals_are_near.Goals as goal

pub returns : goal.returns
returns c = record { near = λ v bs total slack unit x hu cs d. near v bs total slack unit hu cs d x; above = close_above; below = close_below }
