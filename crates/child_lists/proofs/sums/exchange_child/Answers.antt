use Rattle.child_lists.proofs.Shared.{rules, ◌≡◌, ◌<◌, ℕ, inl, refl, sym, ap, ◌∙◌, subst, arith, Some, slice_set, Tree, add, count, more, none, removed, IsChildAt, root_ids, children_of, inserted}
use Rattle.child_lists.proofs.Shared.{plain, Forest, kids, set_nth, tree_nth, Ends, kids_of, put, root_tree, without_root, forest, behind_first, behind_later, front_at, front_put, front_same}
use Rattle.child_lists.proofs.Shared.{front_without, given_handed, given_other, given_root, given_same, given_told, gives_as, last_rest, last_root, last_tree, expression, seen}
use Rattle.child_lists.proofs.{ListedChildren.{ids_exchanged, lists_at, lists_other}, LastSums.{many_kids, next_before, sum_is, taken_owned, exchanged_child}, sums.exchange_child.Given.{Over}}
use Rattle.child_lists.proofs.sums.exchange_child.Goals.{After-id-id, After-release, After-replace_known_child-gone}
use Rattle.child_lists.proofs.sums.exchange_child.Goals as goal

pub child-old-requires : goal.child-old-requires
child-old-requires g c =
    let handed = given_other c.requires.child (given_handed c.requires.sum) in (
      search rules,
      (
        c.requires.stands,
        (
          expression c.id.ensures c.requires.stands handed,
          (lists_at c.id.ensures c.requires.lists, subst (λ (t : Tree). c.args.at < count (children_of t)) (sym (seen c.id.ensures c.requires.stands handed)) c.requires.within),
        ),
      ),
    )

-- the old term, before the new one was placed
known : (g : Over) (c : After-id-id g) → IsChildAt c.args.at c.args.sum.now c.child-old.result (without_root c.args.child (forest c.args.pool.now))
known g c = next_before c.args.at (Some c.child-old.result) c.requires.sum.ends c.requires.child.ends
    (subst (λ (i : ℕ). IsChildAt c.args.at i c.child-old.result (forest c.args.pool.now)) c.id.ensures c.child-old.ensures.child)

pub replace_known_child-gone-requires-clause-known : goal.replace_known_child-gone-requires-clause-known
replace_known_child-gone-requires-clause-known g c = (
  c.args.sum.now,
  c.args.at,
  c.requires.child.tree,
  without_root c.args.child (forest c.args.pool.now),
  c.requires.child.ends,
  known g
      (goal.at.replace_known_child-gone-requires-clause-known g c).After-id-id,
)

gone : (g : Over) (c : After-replace_known_child-gone g)
    → Ends c.replace_known_child-gone.result (tree_nth c.args.at (kids (root_tree c.args.sum.now (without_root c.args.child (forest c.args.pool.now)))))
    (put c.args.sum.now (set_nth c.args.at c.requires.child.tree (kids (root_tree c.args.sum.now (without_root c.args.child (forest c.args.pool.now)))))
    (without_root c.args.child (forest c.args.pool.now))) (forest c.replace_known_child-gone.new.pool)
gone g c =
    c.replace_known_child-gone.ensures.last c.args.sum.now c.args.at c.requires.child.tree (without_root c.args.child (forest c.args.pool.now)) c.requires.child.ends
    (known g c.before.before) (given_root c.requires.sum)

pub release-requires-clause-releasable : goal.release-requires-clause-releasable
release-requires-clause-releasable g c = inl (last_root (gone g (goal.at.release-requires-clause-releasable g c).After-replace_known_child-gone))

done : (g : Over) (c : After-release g)
    → forest c.release.new.pool ≡ put c.args.sum.now (set_nth c.args.at c.requires.child.tree (kids (root_tree c.args.sum.now (without_root c.args.child (forest c.args.pool.now)))))
    (without_root c.args.child (forest c.args.pool.now))
done g c =
    let x = gone g c.before.before in
    c.release.ensures.owned (taken_owned c.args.at (given_handed c.requires.sum) x) ∙ last_rest x

pub returns-clause-sum : goal.returns-clause-sum
returns-clause-sum g c =
    let e = c.requires.sum in
    let same = given_same c.args.sum.now c.requires.child (given_root e) in
    gives_as (exchanged_child c.args.at e (sum_is (given_told e)) c.requires.child (subst (λ (f : Forest). c.args.at < count (children_of (plain f))) same c.requires.within) (done g (goal.at.returns-clause-sum g c).After-release)) refl
    (λ u h. h ∙ (λ i. add (inserted c.args.at (more (plain (sym (last_tree c.requires.child.ends) i)) none) (removed c.args.at (children_of (plain (sym same i)))))))

pub returns-clause-front : goal.returns-clause-front
returns-clause-front g c = front_at (front_put _ behind_first (front_without (behind_later behind_first) front_same)) (done g (goal.at.returns-clause-front g c).After-release)

pub returns-clause-lists : goal.returns-clause-lists
returns-clause-lists g c =
    let i = c.args.sum.now in
    let t = c.requires.child.ends in
    let handed = given_other c.requires.child (given_handed c.requires.sum) in
    let many = many_kids i c.args.pool.now c.requires.stands handed in
    let same = t.root ∙ sym c.id-id.ensures in
    lists_other _ _ c.set.ensures c.requires.lists
    (ids_exchanged i c.args.at c.args.pool.now c.release.new.pool c.requires.child.tree
    (without_root c.args.child (forest c.args.pool.now)) c.requires.stands c.release.ensures.stands handed.root (given_root c.requires.sum) t.alone
    (omega (arith, many, c.requires.within))
    (done g (goal.at.returns-clause-lists g c).After-release ∙ ap
    (λ (f : Forest). put i (set_nth c.args.at c.requires.child.tree (kids f)) (without_root c.args.child (forest c.args.pool.now)))
    (sym (given_same i c.requires.child (given_root c.requires.sum)))) ∙ ap (slice_set (root_ids (kids_of i (forest c.args.pool.now))) c.args.at) same)
