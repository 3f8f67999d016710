use Rattle.tree_shapes.proofs.Naturals.{natural}
use Rattle.tree_shapes.proofs.shapes.Shape.+is_writable.Goals as goal

pub returns-in-Negative : goal.returns-in-Negative
returns-in-Negative t c = rw c.in-Negative.is (natural c.in-Negative.value)
