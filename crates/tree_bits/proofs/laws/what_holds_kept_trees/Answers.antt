use Rattle.tree_bits.proofs.Sums.{symbol_is_held, root_is_held, power_is_held, tree_wider}
use Rattle.tree_bits.proofs.laws.what_holds_kept_trees.Goals as goal

pub returns : goal.returns
returns c = record { symbols = symbol_is_held; roots = root_is_held; powers = power_is_held; by_more = λ t h l k n. tree_wider }
