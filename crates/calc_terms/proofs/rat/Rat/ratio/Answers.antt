use Rattle.calc_terms.proofs.{Shared.{w128, to_z-of_z, ratio_of}, Lowest.{same_ratio_of}}
use Rattle.calc_terms.proofs.rat.Rat.ratio.Goals as goal

pub returns-clause-value : goal.returns-clause-value
returns-clause-value c =
    let r = ratio_of c.divided.result in
    same_ratio_of c.args.num c.args.den _ _ r.num r.den (to_z-of_z w128 c.args.num c.ranges.num) (to_z-of_z w128 c.args.den c.ranges.den)
    c.requires.positive c.divided.ensures.rat.positive c.divided.ensures.same
