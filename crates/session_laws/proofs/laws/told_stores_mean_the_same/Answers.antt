use Rattle.calc_session.specs.Naming.{store_line}
use Rattle.session_laws.proofs.StoredAgain.{stored_again}
use Rattle.session_laws.proofs.laws.told_stores_mean_the_same.Goals as goal

pub returns : goal.returns
returns c = λ room bits old before after v t x stores lacks h. stored_again room bits old before after v lacks t x (store_line v) stores h
