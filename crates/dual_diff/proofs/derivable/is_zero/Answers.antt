use Rattle.dual_diff.proofs.Numbers.{told_zero}
use Rattle.dual_diff.proofs.derivable.is_zero.Goals as goal

pub returns : goal.returns
returns c = told_zero c.args.number c.requires
