use Rattle.enclosures.proofs.OneRootNumbers.{one_root}
use Rattle.enclosures.proofs.laws.one_root_is_told.Goals as goal

pub returns : goal.returns
returns c = one_root
