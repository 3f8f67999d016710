use Rattle.surd_terms.proofs.Radicands.{clean_one}
use Rattle.surd_terms.proofs.term.Term.rational.Goals as goal

pub new-requires-clause-clean : goal.new-requires-clause-clean
new-requires-clause-clean c = clean_one
