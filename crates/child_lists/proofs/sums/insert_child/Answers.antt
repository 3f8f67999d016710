use Rattle.child_lists.proofs.Shared.{rules, ◌≡◌, ◌≤◌, ℕ, refl, sym, ap, ◌∙◌, subst, arith, Tree, add, count, more, none, IsNextAt, root_ids, children_of, inserted, plain, Forest, arity, kids}
use Rattle.child_lists.proofs.Shared.{root_id, with_nth, kids_of, put, root_tree, without_root, forest, behind_first, behind_later, front_at, front_put, front_same, front_without, given_handed}
use Rattle.child_lists.proofs.{Shared.{given_other, given_root, given_same, given_told, gives_as, last_tree, expression, seen, insert}, ListedChildren.{ids_with, lists_at, lists_more}}
use Rattle.child_lists.proofs.{PutBefore.{put_as}, LastSums.{many_kids, next_before, sum_is, inserted_child}, sums.insert_child.Given.{Over}, sums.insert_child.Goals.{After-put_before}}
use Rattle.child_lists.proofs.sums.insert_child.Goals as goal

pub next_child-next-requires : goal.next_child-next-requires
next_child-next-requires g c =
    let handed = given_other c.requires.child (given_handed c.requires.sum) in (
      search rules,
      (
        c.requires.stands,
        (
          expression c.id.ensures c.requires.stands handed,
          (lists_at c.id.ensures c.requires.lists, subst (λ (t : Tree). c.args.at ≤ count (children_of t)) (sym (seen c.id.ensures c.requires.stands handed)) c.requires.within),
        ),
      ),
    )

next : (g : Over) (c : After-put_before g) → IsNextAt c.args.at c.args.sum.now (without_root c.args.child (forest c.args.pool.now)) c.next_child-next.result
next g c = next_before c.args.at c.next_child-next.result c.requires.sum.ends c.requires.child.ends
    (subst (λ (i : ℕ). IsNextAt c.args.at i (forest c.args.pool.now) c.next_child-next.result) c.id.ensures c.next_child-next.ensures)

pub put_before-requires-clause-placed : goal.put_before-requires-clause-placed
put_before-requires-clause-placed g c =
    let others = without_root c.args.child (forest c.args.pool.now) in
    let following = next_before c.args.at c.next_child-next.result c.requires.sum.ends c.requires.child.ends
    (subst (λ (i : ℕ). IsNextAt c.args.at i (forest c.args.pool.now) c.next_child-next.result) c.id.ensures c.next_child-next.ensures) in
    (c.args.at, without_root c.args.sum.now others, c.requires.sum.tree, others, c.requires.child.tree, c.requires.sum.ends, c.requires.child.ends, following)

done : (g : Over) (c : After-put_before g)
    → forest c.put_before.new.pool ≡ put c.args.sum.now (with_nth c.args.at (root_tree c.args.child (forest c.args.pool.now)) (kids (root_tree c.args.sum.now (forest c.args.pool.now)))) (without_root c.args.child (forest c.args.pool.now))
done g c =
    let others = without_root c.args.child (forest c.args.pool.now) in
    put_as c.args.at c.requires.sum c.requires.child
    (c.put_before.ensures.forest c.args.at (without_root c.args.sum.now others) c.requires.sum.tree others c.requires.child.tree c.requires.sum.ends c.requires.child.ends (next g c))

pub returns-clause-sum : goal.returns-clause-sum
returns-clause-sum g c =
    let e = c.requires.sum in
    gives_as (inserted_child c.args.at e (sum_is (given_told e)) c.requires.child (done g (goal.at.returns-clause-sum g c).After-put_before)) refl
    (λ u h. h ∙ ap (λ (f : Forest). add (inserted c.args.at (more (plain (root_tree c.args.child (forest c.args.pool.now))) none) (children_of (plain f))))
    (sym (given_same c.args.sum.now c.requires.child (given_root e))))

pub returns-clause-front : goal.returns-clause-front
returns-clause-front g c = front_at (front_put _ behind_first (front_without (behind_later behind_first) front_same)) (done g (goal.at.returns-clause-front g c).After-put_before)

pub returns-clause-lists : goal.returns-clause-lists
returns-clause-lists g c =
    let i = c.args.sum.now in
    let t = c.requires.child.ends in
    let handed = given_other c.requires.child (given_handed c.requires.sum) in
    let many = many_kids i c.args.pool.now c.requires.stands handed in
    let same : root_id (root_tree c.args.child (forest c.args.pool.now)) ≡ c.id-id.result = ap root_id (last_tree t) ∙ t.root ∙ sym c.id-id.ensures in
    lists_more _ _ _ c.insert.ensures c.requires.lists
    (ids_with i c.args.at c.args.pool.now c.put_before.new.pool (root_tree c.args.child (forest c.args.pool.now))
    (without_root c.args.child (forest c.args.pool.now)) c.requires.stands c.put_before.ensures.stands handed.root (given_root c.requires.sum)
    (ap arity (last_tree t) ∙ t.alone) (omega (arith, many, c.requires.within)) (done g (goal.at.returns-clause-lists g c).After-put_before) ∙ ap
    (insert (root_ids (kids_of i (forest c.args.pool.now))) c.args.at) same)
