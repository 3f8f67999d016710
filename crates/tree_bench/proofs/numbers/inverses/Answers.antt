use Rattle.tree_bench.proofs.Shared.{inl, given_handed, given_root, given_told}
use Rattle.tree_bench.proofs.numbers.inverses.Goals as goal

pub invert_number-requires-clause-handed : goal.invert_number-requires-clause-handed
invert_number-requires-clause-handed _ c = given_handed c.in-Ok.ensures.ok

pub invert_number-requires-clause-number : goal.invert_number-requires-clause-number
invert_number-requires-clause-number _ c = given_told c.in-Ok.ensures.ok

pub release-requires-clause-releasable : goal.release-requires-clause-releasable
release-requires-clause-releasable _ c = inl (given_root (rw c.in-Value.is at c.in-Ok-invert_number.ensures.ok).2)

pub release-requires-in-Wide-clause-releasable : goal.release-requires-in-Wide-clause-releasable
release-requires-in-Wide-clause-releasable _ c =
    let wide = rw c.in-Wide.is at c.in-Ok-invert_number.ensures.ok in
    inl (rw (wide.1, wide.2) (given_root c.in-Ok.ensures.ok))
