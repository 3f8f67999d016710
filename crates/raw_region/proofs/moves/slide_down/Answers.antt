use Rattle.raw_region.proofs.{Shared.{arith}, Slides.{slid_more, length-slid}}
use Rattle.raw_region.proofs.moves.slide_down.Goals as goal

pub loop-done-preserved : goal.loop-done-preserved
loop-done-preserved g c = grind (arith, slid_more, length-slid)
