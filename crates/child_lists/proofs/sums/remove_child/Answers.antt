use Rattle.child_lists.proofs.Shared.{rules, ◌<◌, ℕ, inl, sym, ◌∙◌, subst, arith, Tree, count, kept_after, IsChildAt, children_of, kids, tree_nth, without_nth, Ends, put, root_tree, forest}
use Rattle.child_lists.proofs.Shared.{behind_first, front_same, front_at, front_put, given_root, given_handed, last_root, last_rest, expression, seen, given_told}
use Rattle.child_lists.proofs.{ListedChildren.{ids_without, lists_at, lists_less}, LastSums.{many_kids, removed_free, taken_owned, sum_is, removed_child}, sums.remove_child.Given.{Over}}
use Rattle.child_lists.proofs.sums.remove_child.Goals.{After-release}
use Rattle.child_lists.proofs.sums.remove_child.Goals as goal

pub child-id-requires : goal.child-id-requires
child-id-requires g c = (
  search rules,
  (
    c.requires.stands,
    (
      expression c.id.ensures c.requires.stands (given_handed c.requires.sum),
      (lists_at c.id.ensures c.requires.lists, subst (λ (t : Tree). c.args.at < count (children_of t)) (sym (seen c.id.ensures c.requires.stands (given_handed c.requires.sum))) c.requires.within),
    ),
  ),
)

pub take_known_child-child-requires-clause-known : goal.take_known_child-child-requires-clause-known
take_known_child-child-requires-clause-known g c = (c.args.at, subst (λ (i : ℕ). IsChildAt c.args.at i c.child-id.result (forest c.args.pool.now)) c.id.ensures c.child-id.ensures.child)

pub release-requires-clause-releasable : goal.release-requires-clause-releasable
release-requires-clause-releasable g c =
    inl (last_root (c.take_known_child-child.ensures.last c.args.at
    (subst (λ (i : ℕ). IsChildAt c.args.at i c.child-id.result (forest c.args.pool.now)) c.id.ensures c.child-id.ensures.child) (given_root c.requires.sum)))

-- the old term stands last
taken : (g : Over) (c : After-release g) → Ends c.take_known_child-child.result (tree_nth c.args.at (kids (root_tree c.args.sum.now (forest c.args.pool.now))))
    (put c.args.sum.now (without_nth c.args.at (kids (root_tree c.args.sum.now (forest c.args.pool.now)))) (forest c.args.pool.now)) (forest c.take_known_child-child.new.pool)
taken g c = c.take_known_child-child.ensures.last c.args.at
    (subst (λ (i : ℕ). IsChildAt c.args.at i c.child-id.result (forest c.args.pool.now)) c.id.ensures c.child-id.ensures.child) (given_root c.requires.sum)

pub returns-clause-sum : goal.returns-clause-sum
returns-clause-sum g c =
    let x = taken g (goal.at.returns-clause-sum g c).After-release in
    removed_child c.args.at c.requires.sum (sum_is (given_told c.requires.sum)) x (c.release.ensures.owned (taken_owned c.args.at (given_handed c.requires.sum) x))

pub returns-clause-front : goal.returns-clause-front
returns-clause-front g c =
    let x = taken g (goal.at.returns-clause-front g c).After-release in
    front_at (front_put _ behind_first front_same) (c.release.ensures.owned (taken_owned c.args.at (given_handed c.requires.sum) x) ∙ last_rest x)

pub returns-clause-room : goal.returns-clause-room
returns-clause-room g c =
    let x = taken g (goal.at.returns-clause-room g c).After-release in
    let sum = removed_child c.args.at c.requires.sum (sum_is (given_told c.requires.sum)) x (c.release.ensures.owned (taken_owned c.args.at (given_handed c.requires.sum) x)) in
    removed_free c.args.at c.requires.stands c.release.ensures.stands (kept_after c.take_known_child-child.ensures.kept c.release.ensures.kept) c.requires.sum sum

pub returns-clause-lists : goal.returns-clause-lists
returns-clause-lists g c =
    let i = c.args.sum.now in
    let x = taken g (goal.at.returns-clause-lists g c).After-release in
    let handed = given_handed c.requires.sum in
    let many = many_kids i c.args.pool.now c.requires.stands handed in
    lists_less _ c.remove.ensures c.requires.lists
    (ids_without i c.args.at c.args.pool.now c.release.new.pool (forest c.args.pool.now) c.requires.stands c.release.ensures.stands (given_root c.requires.sum) (given_root c.requires.sum)
    (omega (arith, many, c.requires.within)) (c.release.ensures.owned (taken_owned c.args.at handed x) ∙ last_rest x))
