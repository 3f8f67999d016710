use Rattle.product_reduce.proofs.JointBounds.{base_bound, exponent_bound, others_bound}
use Rattle.product_reduce.proofs.laws.joints_are_nested_no_more.Goals as goal

pub returns : goal.returns
returns c = record { base = base_bound; exponent = exponent_bound; others = others_bound }
