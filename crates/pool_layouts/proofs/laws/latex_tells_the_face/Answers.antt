use Rattle.pool_layouts.proofs.LatexReading.{latex_tells}
use Rattle.pool_layouts.proofs.laws.latex_tells_the_face.Goals as goal

pub returns : goal.returns
returns c = latex_tells
