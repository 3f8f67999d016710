use Rattle.tree_handles.proofs.{Shared.{◌∙◌, sym}, Copies.told_there}
use Rattle.tree_handles.proofs.copy.leaf_at.Goals as goal

pub rational-requires-clause-live : goal.rational-requires-clause-live
rational-requires-clause-live c = (told_there c.args.pool.now c.args.at c.args.header c.of-id.result c.requires.pool c.requires.boundary c.requires.inside c.requires.header c.of-id.ensures).0

pub rational-requires-clause-number : goal.rational-requires-clause-number
rational-requires-clause-number c = (told_there c.args.pool.now c.args.at c.args.header c.of-id.result c.requires.pool c.requires.boundary c.requires.inside c.requires.header c.of-id.ensures).2 ∙ c.in-Num.is

pub name-requires-clause-live : goal.name-requires-clause-live
name-requires-clause-live c = (told_there c.args.pool.now c.args.at c.args.header c.of-id.result c.requires.pool c.requires.boundary c.requires.inside c.requires.header c.of-id.ensures).0

pub name-requires-clause-symbol : goal.name-requires-clause-symbol
name-requires-clause-symbol c = (told_there c.args.pool.now c.args.at c.args.header c.of-id.result c.requires.pool c.requires.boundary c.requires.inside c.requires.header c.of-id.ensures).2 ∙ c.in-Sym.is

pub returns-in-Num-clause-payload : goal.returns-in-Num-clause-payload
returns-in-Num-clause-payload c = sym c.rational.ensures ∙ (told_there c.args.pool.now c.args.at c.args.header c.of-id.result c.requires.pool c.requires.boundary c.requires.inside c.requires.header c.of-id.ensures).1

pub returns-in-Sym-clause-payload : goal.returns-in-Sym-clause-payload
returns-in-Sym-clause-payload c = sym c.name.ensures ∙ (told_there c.args.pool.now c.args.at c.args.header c.of-id.result c.requires.pool c.requires.boundary c.requires.inside c.requires.header c.of-id.ensures).1
