use Rattle.tree_handles.proofs.{Shared.{rules, ◌≡◌, with_nth, kids_of, with_kids, root_tree, without_root, forest, IsChildPlace}, Parts.live_node}
use Rattle.tree_handles.proofs.{AtRoots.{added_root, added_last, added_next, added_more}, moving.add_child.Goals.{After-add_at-arg-1, After-add_at}}
use Rattle.tree_handles.proofs.moving.add_child.Goals as goal

pub child_place-to-requires : goal.child_place-to-requires
child_place-to-requires c = record { live = rw c.id.ensures (live_node c.args.parent.now c.args.pool.now c.requires.stands c.requires.live) }

here : (c : After-add_at-arg-1) → IsChildPlace c.args.at c.args.parent.now c.child_place-to.result c.args.pool.now
here c = record { within = c.requires.within; boundary = c.child_place-to.ensures.boundary; rest = rw (← c.id.ensures) c.child_place-to.ensures.rest }

pub add_at-requires-clause-place : goal.add_at-requires-clause-place
add_at-requires-clause-place c = (c.args.at, here c)

done : (c : After-add_at) → forest c.add_at.new.pool ≡ with_kids c.args.parent.now (with_nth c.args.at (root_tree c.args.child (forest c.args.pool.now)) (kids_of c.args.parent.now (forest c.args.pool.now))) (without_root c.args.child (forest c.args.pool.now))
done c = c.add_at.ensures.forest c.args.at (record { within = c.requires.within; boundary = c.child_place-to.ensures.boundary; rest = rw (← c.id.ensures) c.child_place-to.ensures.rest })

pub returns : goal.returns
returns c =
    let facts = added_more c.args.parent.now c.args.at c.args.child (forest c.args.pool.now) (forest c.add_at.new.pool) c.requires.live c.requires.within c.requires.root c.requires.apart (done c) in
    record {
      forest = done c;
      live = facts.live;
      many = facts.many;
      root = added_root c.args.parent.now c.args.at c.args.child c.args.pool.now c.add_at.new.pool c.requires.stands c.requires.root c.requires.apart (done c);
      last = added_last c.args.parent.now c.args.at c.args.child c.args.pool.now c.add_at.new.pool c.requires.stands c.requires.root c.requires.apart (done c);
      next = added_next c.args.parent.now c.args.at c.args.child c.args.pool.now c.add_at.new.pool c.requires.stands c.requires.root c.requires.apart (done c);
      kept = search rules;
      stands = search rules;
    }
