use Rattle.calc_terms.proofs.SmallLaws.{told_one}
use Rattle.dual_diff.proofs.derivable.is_one.Goals as goal

pub returns : goal.returns
returns c = told_one c.args.number c.requires
