use Rattle.deep_reduce.proofs.{Shared.{rules, inl, refl, arith, tree_of, behind_first, front_at, front_without, children_of, parent_end}, Parents.{first_out, both_out, parent_children}}
use Rattle.deep_reduce.proofs.differences.take_sides.Goals as goal

pub take_child-right-requires-clause-within : goal.take_child-right-requires-clause-within
take_child-right-requires-clause-within c =
    let a = first_out c.requires.handed c.requires.two (c.take_child-left.ensures.last c.requires.handed.root) in
    omega (arith, parent_children c.take_child-left.ensures.stands (parent_end a.parent a.gives.ends))

pub release-requires-clause-releasable : goal.release-requires-clause-releasable
release-requires-clause-releasable c =
    let a = first_out c.requires.handed c.requires.two (c.take_child-left.ensures.last c.requires.handed.root) in
    inl (both_out a (c.take_child-right.ensures.last (parent_end a.parent a.gives.ends).root) (children_of (tree_of c.args.tree c.args.pool.now)) refl refl).owned.root

pub returns : goal.returns
returns c =
    let a = first_out c.requires.handed c.requires.two (c.take_child-left.ensures.last c.requires.handed.root) in
    let b = both_out a (c.take_child-right.ensures.last (parent_end a.parent a.gives.ends).root) (children_of (tree_of c.args.tree c.args.pool.now)) refl refl in
    record {
      sides = rw (c.release.ensures.owned b.owned) b.sides;
      front = front_at (front_without behind_first b.front) (c.release.ensures.owned b.owned);
      kept = search rules;
      stands = search rules;
    }
