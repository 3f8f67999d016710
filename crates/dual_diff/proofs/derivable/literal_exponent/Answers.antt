use Rattle.dual_diff.proofs.{Shared.tree_of, Exponents.{exponent_none, exponent_small}, Numbers.told_small}
use Rattle.dual_diff.proofs.derivable.literal_exponent.Goals as goal

pub unreachable-requires : goal.unreachable-requires
unreachable-requires c = exponent_none (tree_of c.args.exponent c.args.pool.now) c.in-None.ensures.value c.requires.derivable

pub returns-clause-small : goal.returns-clause-small
returns-clause-small c = told_small c.in-Some.number (exponent_small (tree_of c.args.exponent c.args.pool.now) c.in-Some.number c.in-Some.ensures.value c.requires.derivable)
