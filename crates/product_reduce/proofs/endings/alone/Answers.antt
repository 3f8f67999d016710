use Rattle.product_reduce.proofs.Shared.{arith, inl, behind_first, behind_later, front_same, front_at, front_end, front_without, owned, handed_beside, represents_handed, ends_as, eqb-sym}
use Rattle.product_reduce.proofs.Shared.{tree-without, without-swap}
use Rattle.product_reduce.proofs.endings.alone.Goals as goal

pub release-requires-clause-releasable : goal.release-requires-clause-releasable
release-requires-clause-releasable c = inl c.requires.product.root

pub move_last-requires-clause-root : goal.move_last-requires-clause-root
move_last-requires-clause-root c = grind (arith, owned, handed_beside, eqb-sym)

pub returns-clause-ok : goal.returns-clause-ok
returns-clause-ok c = grind (arith, eqb-sym, owned, ends_as, without-swap, represents_handed, handed_beside, tree-without)

pub returns-clause-front : goal.returns-clause-front
returns-clause-front c =
    front_end c.move_last.ensures.last (front_without (behind_later behind_first) (front_at (front_without behind_first front_same) (c.release.ensures.owned (owned c.requires.product))))
