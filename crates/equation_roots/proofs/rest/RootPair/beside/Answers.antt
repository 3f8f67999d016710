use Rattle.calc_terms.specs.Rat.{value_of}
use Rattle.equation_roots.proofs.Finishing.{above_is}
use Rattle.equation_roots.proofs.rest.RootPair.beside.Goals as goal

pub returns-clause-above : goal.returns-clause-above
returns-clause-above c = above_is (value_of c.args.self.beside).num c.args.self.above
