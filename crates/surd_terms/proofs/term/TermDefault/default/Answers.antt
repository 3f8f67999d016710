use Rattle.surd_terms.proofs.Shared.{ap, ◌∙◌, sym, one_not_zero, one_fraction, lowest, Ratio}
use Rattle.surd_terms.proofs.term.TermDefault.default.Goals as goal

pub rational-requires : goal.rational-requires
unfolding one_fraction
rational-requires c = λ e. one_not_zero (sym (ap (λ (r : Ratio). lowest r.num r.den) c.whole.ensures) ∙ e)
