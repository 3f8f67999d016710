use Rattle.session_laws.proofs.MeaningLemmas.{nothing_meant}
use Rattle.session_laws.proofs.laws.undef_has_no_meaning.Goals as goal

pub returns : goal.returns
returns c = λ t r. nothing_meant t r
