use Rattle.name_table.proofs.{Shared.holders_in, Counting.counted-same}
use Rattle.name_table.proofs.laws.held_trees_stay.Goals as goal

pub returns : goal.returns
returns c = λ t f h. counted-same (holders_in t) f h.counts
