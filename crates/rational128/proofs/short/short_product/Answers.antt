use Rattle.rational128.proofs.{Shorts.{IsShortOne, short_one, short_product, product_value, rational_fits}, short.short_product.Goals.{After-num-2}}
use Rattle.rational128.proofs.short.short_product.Goals as goal

left : (c : After-num-2) → IsShortOne c.args.a c.num.result
left c = short_one c.args.a c.num.result c.requires.first c.num.ensures.value c.num.ensures.rat

right : (c : After-num-2) → IsShortOne c.args.b c.num-2.result
right c = short_one c.args.b c.num-2.result c.requires.second c.num-2.ensures.value c.num-2.ensures.rat

pub overflow_mul-num : goal.overflow_mul-num
overflow_mul-num c =
    let at = (goal.at.overflow_mul-num c).After-num-2 in
    (short_product c.args.a c.args.b _ _ (left at) (right at)).fits

pub whole-requires : goal.whole-requires
whole-requires c =
    let at = (goal.at.whole-requires c).After-num-2 in
    (short_product c.args.a c.args.b _ _ (left at) (right at)).small

pub returns-clause-fits : goal.returns-clause-fits
returns-clause-fits c =
    let at = (goal.at.returns-clause-fits c).After-num-2 in
    let l = left at in
    let r = right at in
    rational_fits c.whole.result _ (product_value c.args.a c.args.b c.whole.result _ _ _ l r c.whole.ensures (short_product c.args.a c.args.b _ _ l r).told)

pub returns-clause-value : goal.returns-clause-value
returns-clause-value c =
    let at = (goal.at.returns-clause-value c).After-num-2 in
    let l = left at in
    let r = right at in
    product_value c.args.a c.args.b c.whole.result _ _ _ l r c.whole.ensures (short_product c.args.a c.args.b _ _ l r).told
