use Rattle.coefficients.proofs.{Shared.{forest, apart, root_held}, FirstFactors.{first_factor, first_last, last_front}}
use Rattle.coefficients.proofs.splicing.put_factor.Goals as goal

pub add_child-requires-clause-live : goal.add_child-requires-clause-live
add_child-requires-clause-live c = root_held c.args.product (forest c.args.pool.now) c.requires.first.root

pub add_child-requires-clause-apart : goal.add_child-requires-clause-apart
add_child-requires-clause-apart c = apart c.args.product c.args.factor c.requires.stands c.requires.apart c.requires.first.root c.requires.second.root

pub move_last-requires-clause-root : goal.move_last-requires-clause-root
move_last-requires-clause-root c = (first_factor c.requires.first c.requires.second c.requires.apart c.requires.product (c.add_child.ensures.root c.requires.first.root)).over.root

pub returns-clause-tree : goal.returns-clause-tree
returns-clause-tree c = first_last (first_factor c.requires.first c.requires.second c.requires.apart c.requires.product (c.add_child.ensures.root c.requires.first.root)) c.move_last.ensures.last

pub returns-clause-front : goal.returns-clause-front
returns-clause-front c = last_front (first_factor c.requires.first c.requires.second c.requires.apart c.requires.product (c.add_child.ensures.root c.requires.first.root)) c.move_last.ensures.last
