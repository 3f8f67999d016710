use Rattle.enclosures.proofs.Near.{one}
use Rattle.enclosures.proofs.laws.one_decimal.Goals as goal

pub returns : goal.returns
returns c = λ v scale m n hs. one v scale hs m n
