use Rattle.number_forms.proofs.Shared.{subst, IsTerm, term_words}
use Rattle.number_forms.proofs.term.term_at.Goals as goal

pub rational-requires : goal.rational-requires
rational-requires c = subst IsTerm c.in-Rational.ensures (term_words _ c.requires.term)

pub radicand_of-requires : goal.radicand_of-requires
radicand_of-requires c = subst IsTerm c.in-Root.ensures (term_words _ c.requires.term)

pub radicand_of-requires-in-Multiple : goal.radicand_of-requires-in-Multiple
radicand_of-requires-in-Multiple c = (subst IsTerm c.in-Multiple.ensures (term_words _ c.requires.term)).2

pub new-requires-in-Multiple-clause-not_zero : goal.new-requires-in-Multiple-clause-not_zero
new-requires-in-Multiple-clause-not_zero c = (subst IsTerm c.in-Multiple.ensures (term_words _ c.requires.term)).0
