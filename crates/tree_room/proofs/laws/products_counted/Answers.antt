use Rattle.tree_room.proofs.Counts.{product_at_least, product_at_most, joined_count}
use Rattle.tree_room.proofs.laws.products_counted.Goals as goal

pub returns : goal.returns
returns c = record { at_least = product_at_least; at_most = product_at_most; joined = joined_count }
