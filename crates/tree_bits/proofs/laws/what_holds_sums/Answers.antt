use Rattle.tree_bits.proofs.Children.{tree_as_sum, sum_as_tree, trees_together, trees_by_count}
use Rattle.tree_bits.proofs.laws.what_holds_sums.Goals as goal

pub returns : goal.returns
returns c = record { of_trees = λ t h l. tree_as_sum; trees = sum_as_tree; by_powers = trees_together; by_count = trees_by_count }
