use Rattle.std.proofs.Common.{get_or, ◌∙◌}
use Rattle.calc_terms.specs.Leaf.{name_of}
use Rattle.tree_walks.proofs.Names.{same_name}
use Rattle.calc_session.proofs.OnlyNames.{only_one}
use Rattle.calc_session.proofs.rooting.are_only.Goals as goal

pub returns-in-1 : goal.returns-in-1
returns-in-1 c = only_one (name_of c.args.name) c.args.names.now c.index-names-0.result c.eq.result c.in-1.is (c.eq.ensures ∙ same_name (get_or c.args.names.now 0 c.index-names-0.result).name c.args.name)
