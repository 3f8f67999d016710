use Rattle.dual_diff.proofs.{Shared.{◌∙◌, sym, rules, FitsSigned, value_of, ratio_parts, w128, to_z-of_z}, Exponents.{whole_some, whole_none, rat_whole}}
use Rattle.dual_diff.proofs.derivable.whole_number.Goals as goal

pub returns-then-is_whole-clause-value : goal.returns-then-is_whole-clause-value
returns-then-is_whole-clause-value c =
    let fits : FitsSigned w128 c.num.result = search rules in
    whole_some (value_of c.args.value) _ (to_z-of_z w128 _ fits ∙ c.num.ensures.value ∙ sym (ratio_parts c.args.value).num)
    ((rat_whole c.args.value c.is_whole.result c.is_whole.ensures).0 c.if-is_whole.true)

pub returns-else-is_whole-clause-value : goal.returns-else-is_whole-clause-value
returns-else-is_whole-clause-value c = whole_none (value_of c.args.value) c.is_whole.result (rat_whole c.args.value c.is_whole.result c.is_whole.ensures) c.if-is_whole.false
