use Rattle.product_reduce.proofs.JointBounds.{others_load}
use Rattle.product_reduce.proofs.laws.joints_lower_the_load.Goals as goal

pub returns : goal.returns
returns c = others_load
