use Rattle.coefficients.proofs.Shared.{◌∙◌, inl, behind_first, front_at, front_end, front_put, front_same, front_without, gives, represents_handed, owned, over_product, count_is, children_at}
use Rattle.coefficients.proofs.Steps.{only_taken, many_factors}
use Rattle.coefficients.proofs.products.unwrapped.Goals as goal

pub release-requires-clause-releasable : goal.release-requires-clause-releasable
release-requires-clause-releasable c =
    let o = over_product c.requires.handed c.requires.product in
    inl (only_taken o (count_is o c.requires.stands c.id.ensures c.children.ensures.value c.if-children-eq1.true) (c.take_child-only.ensures.last c.requires.handed.root)).handed.root

pub returns-then-children-eq1-clause-tree : goal.returns-then-children-eq1-clause-tree
returns-then-children-eq1-clause-tree c =
    let o = over_product c.requires.handed c.requires.product in
    let t = only_taken o (count_is o c.requires.stands c.id.ensures c.children.ensures.value c.if-children-eq1.true) (c.take_child-only.ensures.last c.requires.handed.root) in
    t.released (c.release.ensures.owned (owned t.handed))

pub returns-then-children-eq1-clause-front : goal.returns-then-children-eq1-clause-front
returns-then-children-eq1-clause-front c =
    let o = over_product c.requires.handed c.requires.product in
    let t = only_taken o (count_is o c.requires.stands c.id.ensures c.children.ensures.value c.if-children-eq1.true) (c.take_child-only.ensures.last c.requires.handed.root) in
    front_at (front_without behind_first (front_end (c.take_child-only.ensures.last c.requires.handed.root) (front_put _ behind_first front_same))) (c.release.ensures.owned (owned t.handed))

pub returns-else-children-eq1-clause-tree : goal.returns-else-children-eq1-clause-tree
returns-else-children-eq1-clause-tree c =
    let o = over_product c.requires.handed c.requires.product in
    gives c.move_last.ensures.last (represents_handed c.requires.handed)
    (many_factors _ c.requires.product c.requires.some (λ e. c.if-children-eq1.false (c.children.ensures.value ∙ (children_at o c.requires.stands c.id.ensures) ∙ e)))

pub returns-else-children-eq1-clause-front : goal.returns-else-children-eq1-clause-front
returns-else-children-eq1-clause-front c = front_end c.move_last.ensures.last (front_without behind_first front_same)
