use Rattle.rational128.proofs.{Shared.{ap, arith, rules, nat_abs, FitsSigned, w128, to_z-of_z, to_z_pos}, LowestTerms.{is_lowest_from, made_parts}}
use Rattle.rational128.proofs.parts.rational.Goals as goal

pub lowest-requires-clause-in_lowest_terms : goal.lowest-requires-clause-in_lowest_terms
lowest-requires-clause-in_lowest_terms c =
    let fits : FitsSigned w128 c.args.num = search rules in
    rw (to_z-of_z w128 _ fits, to_z_pos w128 c.args.den (omega arith)) (is_lowest_from c.args.num c.args.den c.requires.positive c.requires.in_lowest_terms)

pub returns-clause-num : goal.returns-clause-num
returns-clause-num c =
    let fits : FitsSigned w128 c.args.num = search rules in
    (made_parts c.lowest.result _ c.args.num _ c.args.den c.lowest.ensures (to_z-of_z w128 _ fits) (ap nat_abs (to_z_pos w128 c.args.den (omega arith))) (is_lowest_from c.args.num c.args.den c.requires.positive c.requires.in_lowest_terms)).num

pub returns-clause-den : goal.returns-clause-den
returns-clause-den c =
    let fits : FitsSigned w128 c.args.num = search rules in
    (made_parts c.lowest.result _ c.args.num _ c.args.den c.lowest.ensures (to_z-of_z w128 _ fits) (ap nat_abs (to_z_pos w128 c.args.den (omega arith))) (is_lowest_from c.args.num c.args.den c.requires.positive c.requires.in_lowest_terms)).den
