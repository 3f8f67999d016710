use Rattle.std.proofs.Common.{◌≡◌, FitsSigned, to_z, of_z, sym, ◌∙◌, rules}
use Rattle.std.proofs.lemmas.Int.{to_z-of_z}
use Rattle.std.specs.Int.{w128}
use Rattle.rational128.proofs.LowestTerms.{ratio_parts}
use Rattle.decimals.proofs.RationalDecimals.{sign_parts}
use Rattle.decimals.proofs.parts.Parts.of.Goals as goal

pub returns-clause-num : goal.returns-clause-num
returns-clause-num c =
    let first_fits : FitsSigned w128 c.num.result = search rules in
    let second_fits : FitsSigned w128 c.num-2.result = search rules in
    let first : to_z w128 (of_z w128 c.num.result) ≡ c.args.q.num = to_z-of_z w128 _ first_fits ∙ c.num.ensures.value in
    let second : to_z w128 (of_z w128 c.num-2.result) ≡ c.args.q.num = to_z-of_z w128 _ second_fits ∙ c.num-2.ensures.value in
    rw (c.unsigned_abs.ensures.value, first, second) (sign_parts c.args.q.num ∙ sym (ratio_parts c.args.q).num)

pub returns-clause-den : goal.returns-clause-den
returns-clause-den c =
    let fits : FitsSigned w128 c.den.result = search rules in
    rw (c.unsigned_abs-2.ensures.value, to_z-of_z w128 c.den.result fits, c.den.ensures.value) (sym (ratio_parts c.args.q).den)
