use Rattle.beautify.proofs.{Shared.{ap, sym, ◌∙◌, rules, FitsSigned, ratio_parts, w128, to_z-of_z, lt_z}, Signs.lt_z-zero}
use Rattle.std.specs.Prelude.{ℤ, pos}
use Rattle.beautify.proofs.reading.is_below_zero.Goals as goal

pub returns : goal.returns
returns c =
    let fits : FitsSigned w128 c.num.result = search rules in
    ap (λ (p : ℤ). lt_z p (pos 0)) (to_z-of_z w128 _ fits ∙ c.num.ensures.value ∙ sym (ratio_parts c.args.value).num) ∙ lt_z-zero _
