use Rattle.rational128.proofs.PowerLaws.{IsPowering}
use Rattle.rational128.proofs.powers.power_by_squares.Given as goal

abbrev pub invariant-loop-left : goal.invariant-loop-left
invariant-loop-left l = IsPowering l.base l.exponent l.power l.square l.left

abbrev pub decreases-loop-left : goal.decreases-loop-left
decreases-loop-left l = l.left
