use Rattle.surd_bits.proofs.JoinsFit.{joins_fit}
use Rattle.surd_bits.proofs.laws.joins_fit.Goals as goal

pub returns : goal.returns
returns c = joins_fit
