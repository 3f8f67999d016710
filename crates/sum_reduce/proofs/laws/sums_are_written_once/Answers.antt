use Rattle.sum_reduce.proofs.OneOrder.{written_once}
use Rattle.sum_reduce.proofs.laws.sums_are_written_once.Goals as goal

pub returns : goal.returns
returns c = written_once
