use Rattle.tree_room.proofs.Handed.{sum_bytes, product_bytes, factors_bytes, raised_factor, raised_number}
use Rattle.tree_room.proofs.laws.handed_trees_are_small.Goals as goal

pub returns : goal.returns
returns c = record { sums = sum_bytes; products = product_bytes; factors = factors_bytes; raised_factors = raised_factor; raised_numbers = raised_number }
