use Rattle.calc_session.proofs.StoreLines.{store_read}
use Rattle.calc_session.proofs.laws.told_stores_are_stores.Goals as goal

pub returns : goal.returns
returns c = λ v reads named. store_read v.tree v.name reads named
