use Rattle.calc_algebra.proofs.SquareRootLaws.{square_root_is}
use Rattle.calc_algebra.proofs.laws.computed_numbers.Goals as goal

pub returns-clause-square_root : goal.returns-clause-square_root
returns-clause-square_root c = square_root_is
