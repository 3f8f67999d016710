use Rattle.std.proofs.Common.{rules, nat_abs, FitsSigned, sym, ap, subst, ◌<◌, ℕ, ◌∙◌}
use Rattle.std.proofs.lemmas.Int.{to_z-of_z}
use Rattle.calc_terms.specs.{Fractions.{den_pos}, Rat.{value_of}}
use Rattle.rational128.proofs.LowestTerms.{ratio_parts}
use Rattle.equation_roots.proofs.operations.parts.Goals as goal
use mir.Syntax.{w128}

pub returns-clause-num : goal.returns-clause-num
returns-clause-num c =
    let fits : FitsSigned w128 c.num.result = search rules in
    to_z-of_z w128 _ fits ∙ c.num.ensures.value ∙ sym (ratio_parts c.args.a).num

pub returns-clause-den : goal.returns-clause-den
returns-clause-den c =
    let fits : FitsSigned w128 c.den.result = search rules in
    c.unsigned_abs.ensures.value ∙ ap nat_abs (to_z-of_z w128 _ fits ∙ c.den.ensures.value) ∙ sym (ratio_parts c.args.a).den

pub returns-clause-den_positive : goal.returns-clause-den_positive
returns-clause-den_positive c =
    let fits : FitsSigned w128 c.den.result = search rules in
    subst (λ (n : ℕ). 0 < n) (sym (c.unsigned_abs.ensures.value ∙ ap nat_abs (to_z-of_z w128 _ fits ∙ c.den.ensures.value) ∙ sym (ratio_parts c.args.a).den)) (den_pos (value_of c.args.a))
