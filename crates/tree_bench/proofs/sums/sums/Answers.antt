use Rattle.tree_bench.proofs.Shared.{inl, given_root}
use Rattle.tree_bench.proofs.sums.sums.Goals as goal

pub release-requires-clause-releasable : goal.release-requires-clause-releasable
release-requires-clause-releasable _ c = inl (given_root c.in-Ok-reduce_sum.ensures.ok)
