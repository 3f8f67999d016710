use Rattle.expand_forms.proofs.{Shared.{◌∙◌, rules, FitsSigned, w128, to_z-of_z}, Numbers.{small_none, small_some}}
use Rattle.expand_forms.proofs.polynomial.is_small.Goals as goal

pub returns-then-is_whole : goal.returns-then-is_whole
returns-then-is_whole c =
    let fits : FitsSigned w128 c.num.result = search rules in
    c.is_within_limit.ensures ∙ small_some c.args.value c.is_whole.result _ c.is_whole.ensures c.if-is_whole.true (to_z-of_z w128 _ fits ∙ c.num.ensures.value)

pub returns : goal.returns
returns c = small_none c.args.value c.is_whole.result c.is_whole.ensures c.if-is_whole.false
