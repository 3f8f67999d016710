use Rattle.calc_bits.proofs.RootsAbove.{root_enough, root_least}
use Rattle.calc_bits.proofs.laws.computed_roots.Goals as goal

pub returns-clause-enough : goal.returns-clause-enough
returns-clause-enough c = root_enough

pub returns-clause-least : goal.returns-clause-least
returns-clause-least c = root_least
