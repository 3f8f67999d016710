use Rattle.sum_reduce.proofs.{Shared.{inl, behind_first, front_same, front_end, front_without, owned, given_handed, given_root}, Sums.{part_gone}}
use Rattle.sum_reduce.proofs.joining.coefficient_alone.Goals as goal

pub release-requires-clause-releasable : goal.release-requires-clause-releasable
release-requires-clause-releasable c = inl (given_root c.in_ok-coefficient.ensures.ok.second-given)

pub returns-clause-ok : goal.returns-clause-ok
returns-clause-ok c = let k = c.in_ok-coefficient.ensures.ok in part_gone k (c.release.ensures.owned (owned (given_handed k.second-given)))

pub returns-clause-front : goal.returns-clause-front
returns-clause-front c =
    let k = c.in_ok-coefficient.ensures.ok in
    let g = part_gone k (c.release.ensures.owned (owned (given_handed k.second-given))) in
    front_end g.ends (front_without behind_first front_same)
