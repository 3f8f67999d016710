use Rattle.rational128.proofs.{Shorts.{IsShortOne, short_one, short_sum, sum_value, short_fits}, short.short_sum.Goals.{After-num-2}}
use Rattle.rational128.proofs.short.short_sum.Goals as goal

left : (c : After-num-2) → IsShortOne c.args.a c.num.result
left c = short_one c.args.a c.num.result c.requires.first c.num.ensures.value c.num.ensures.rat

right : (c : After-num-2) → IsShortOne c.args.b c.num-2.result
right c = short_one c.args.b c.num-2.result c.requires.second c.num-2.ensures.value c.num-2.ensures.rat

pub overflow_add-num : goal.overflow_add-num
overflow_add-num c =
    let at = (goal.at.overflow_add-num c).After-num-2 in
    (short_sum c.args.a c.args.b _ _ (left at) (right at)).fits

pub whole-requires : goal.whole-requires
whole-requires c =
    let at = (goal.at.whole-requires c).After-num-2 in
    (short_sum c.args.a c.args.b _ _ (left at) (right at)).small

pub returns-clause-fits : goal.returns-clause-fits
returns-clause-fits c =
    let at = (goal.at.returns-clause-fits c).After-num-2 in
    short_fits c.args.a c.args.b _ _ (left at) (right at)

pub returns-clause-value : goal.returns-clause-value
returns-clause-value c =
    let at = (goal.at.returns-clause-value c).After-num-2 in
    sum_value c.args.a c.args.b c.whole.result _ _ _ (left at) (right at) c.whole.ensures (short_sum c.args.a c.args.b _ _ (left at) (right at)).told
