use Rattle.dual_diff.proofs.{Shared.{sym, name_of}, Shared.tree_of, Exponents.held}
use Rattle.dual_diff.proofs.reading.holds.Goals as goal

pub returns : goal.returns
returns c = sym (held c.holds_name.result (name_of c.args.name) (tree_of c.args.tree c.args.pool.now) c.holds_name.ensures)
