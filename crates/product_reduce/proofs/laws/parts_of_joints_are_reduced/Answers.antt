use Rattle.product_reduce.proofs.JointBounds.{base_reduced, exponent_reduced}
use Rattle.product_reduce.proofs.laws.parts_of_joints_are_reduced.Goals as goal

pub returns : goal.returns
returns c = record { base = base_reduced; exponent = exponent_reduced }
