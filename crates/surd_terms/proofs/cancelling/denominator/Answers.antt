use Rattle.surd_terms.proofs.Shared.{sym, ap, ◌∙◌, rules, nat_abs, FitsSigned, w128, to_z-of_z, ratio_parts}
use Rattle.surd_terms.proofs.cancelling.denominator.Goals as goal

pub returns-clause-value : goal.returns-clause-value
returns-clause-value c =
    let fits : FitsSigned w128 c.den.result = search rules in
    c.unsigned_abs.ensures.value ∙ ap nat_abs (to_z-of_z w128 _ fits ∙ c.den.ensures.value) ∙ sym (ratio_parts c.args.c).den
