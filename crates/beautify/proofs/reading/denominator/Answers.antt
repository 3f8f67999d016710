use Rattle.beautify.proofs.Shared.{ap, sym, ◌∙◌, rules, FitsSigned, ratio_parts, w128, to_z-of_z}
use Rattle.std.specs.Prelude.{nat_abs}
use Rattle.beautify.proofs.reading.denominator.Goals as goal

pub returns-clause-value : goal.returns-clause-value
returns-clause-value c =
    let fits : FitsSigned w128 c.den.result = search rules in
    c.unsigned_abs.ensures.value ∙ ap nat_abs (to_z-of_z w128 _ fits ∙ c.den.ensures.value) ∙ sym (ratio_parts c.args.value).den
