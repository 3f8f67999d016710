use Rattle.tree_walks.proofs.{Shared.{◌∙◌, ap, sym, name_of, has_name, symbol_seen}, Names.{same_name}}
use Rattle.tree_walks.proofs.leaves.is_leaf_of.Goals as goal

pub name-requires-clause-symbol : goal.name-requires-clause-symbol
name-requires-clause-symbol c = symbol_seen c.args.id c.args.pool.now c.requires.stands c.requires.live (sym c.requires.kind ∙ c.in-Sym.is)

pub returns-in-Sym : goal.returns-in-Sym
returns-in-Sym c = c.eq.ensures ∙ same_name c.name.result c.args.name ∙ ap (has_name (name_of c.args.name)) (sym c.name.ensures.value)
