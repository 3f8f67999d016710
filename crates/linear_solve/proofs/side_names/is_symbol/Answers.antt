use Rattle.linear_solve.proofs.{Shared.{sym, ◌∙◌, plain, tree_at, forest}, RisingLemmas.{no_symbol}}
use Rattle.linear_solve.proofs.side_names.is_symbol.Goals as goal

pub returns-in-Sym : goal.returns-in-Sym
returns-in-Sym c = sym (c.kind.ensures.symbol c.in-Sym.is)

pub returns-in_default : goal.returns-in_default
returns-in_default c = sym (no_symbol (plain (tree_at c.args.t (forest c.args.pool.now))) (λ e. c.in_default.not-Sym (c.kind.ensures.plain c.requires.expression ∙ e)))
