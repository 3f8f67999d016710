use Rattle.rational128.proofs.{Shared.{sym, ap, ◌∙◌, rules, nat_abs, FitsSigned, w128, to_z-of_z}, LowestTerms.{ratio_parts}}
use Rattle.rational128.proofs.parts.parts.Goals as goal

pub returns-clause-num : goal.returns-clause-num
returns-clause-num c =
    let fits : FitsSigned w128 c.num.result = search rules in
    to_z-of_z w128 _ fits ∙ c.num.ensures.value ∙ sym (ratio_parts c.args.a).num

pub returns-clause-den : goal.returns-clause-den
returns-clause-den c =
    let fits : FitsSigned w128 c.den.result = search rules in
    c.unsigned_abs.ensures.value ∙ ap nat_abs (to_z-of_z w128 _ fits ∙ c.den.ensures.value) ∙ sym (ratio_parts c.args.a).den
