use Rattle.dual_diff.proofs.Shared.{◌≡◌, ◌≤◌, ◌∙◌, ap, arith, subst, Places, count, one, size, children_of, nth, tree_of, places_joined, places_keeps, places_nothing, places_room}
use Rattle.dual_diff.proofs.{Slices.{slice_more, slice_none, slice_room}, placer.PlacerWriter.copies.Goals.{After-child_of-child}}
use Rattle.dual_diff.proofs.placer.PlacerWriter.copies.Goals as goal

pub loop-at-init : goal.loop-at-init
loop-at-init c = subst (Places c.args.pool.now c.args.pool.now c.args.self.now.last c.args.self.now.last)
    (slice_none c.args.from (children_of (tree_of c.args.parent c.args.pool.now))) (places_nothing c.requires.stands)

pub child_of-child-requires : goal.child_of-child-requires
child_of-child-requires c =
    let k = places_keeps c.loop-at.invariant in
    record {
      stands = k.stands;
      expression = k.expressions c.args.parent c.requires.expression;
      within = omega (arith, ap (λ t. count (children_of t)) (k.same c.args.parent c.requires.expression), c.loop-at-test.true, c.requires.within);
    }

-- the child that is copied
tree_is : (c : After-child_of-child) → tree_of c.child_of-child.result c.loop-at.pool ≡ nth c.loop-at.at (children_of (tree_of c.args.parent c.args.pool.now))
tree_is c = c.child_of-child.ensures.plain ∙ ap (λ t. nth c.loop-at.at (children_of t)) ((places_keeps c.loop-at.invariant).same c.args.parent c.requires.expression)

pub copy-requires : goal.copy-requires
copy-requires c =
    let from : c.args.from ≤ c.loop-at.at = omega arith in
    record {
      stands = (places_keeps c.loop-at.invariant).stands;
      expression = c.child_of-child.ensures.expression;
      room = places_room c.loop-at.invariant c.requires.room
          (omega (arith, c.requires.bytes, ap size (tree_is (goal.at.copy-requires c).After-child_of-child), slice_room c.args.from c.loop-at.at c.args.to (children_of (tree_of c.args.parent c.args.pool.now)) from c.loop-at-test.true c.requires.within));
    }

pub loop-at-preserved : goal.loop-at-preserved
loop-at-preserved c =
    let from : c.args.from ≤ c.loop-at.at = omega arith in
    let copied = subst (λ t. Places c.loop-at.pool c.copy.new.pool c.loop-at.self.last c.copy.new.self.last (one t)) (tree_is (goal.at.loop-at-preserved c).After-child_of-child) c.copy.ensures in
    subst (Places c.args.pool.now c.copy.new.pool c.args.self.now.last c.copy.new.self.last)
    (slice_more c.args.from c.loop-at.at (children_of (tree_of c.args.parent c.args.pool.now)) from (omega (arith, c.loop-at-test.true, c.requires.within)))
    (places_joined c.loop-at.invariant copied)
