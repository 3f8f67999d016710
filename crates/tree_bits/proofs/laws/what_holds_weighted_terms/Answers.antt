use Rattle.tree_bits.proofs.{Weighted.{held_by_both, put_before, split_off}, Sums.{sums_held, joined_held}}
use Rattle.tree_bits.proofs.laws.what_holds_weighted_terms.Goals as goal

pub returns : goal.returns
returns c = record { by_both = held_by_both; sums = sums_held; joined = joined_held; put_before = put_before; split_off = split_off }
