use Rattle.rational128.proofs.Signed.{kept_told, magnitude_told, negated_told}
use Rattle.rational128.proofs.fitting.signed_product.Goals as goal

pub returns-then-b-lt0 : goal.returns-then-b-lt0
returns-then-b-lt0 c =
    negated_told c.in_ok-product.product c.args.a c.args.b c.ranges.b (magnitude_told _ _ _ _ c.ranges.a c.ranges.b c.unsigned_abs.ensures.value c.in_ok-product.ensures) c.if-b-lt0.true

pub returns-else-b-lt0 : goal.returns-else-b-lt0
returns-else-b-lt0 c =
    kept_told c.in_ok-product.product c.args.a c.args.b c.ranges.b (magnitude_told _ _ _ _ c.ranges.a c.ranges.b c.unsigned_abs.ensures.value c.in_ok-product.ensures) c.if-b-lt0.false
