use Rattle.tree_handles.proofs.{Shared.{ℕ, ap, ◌∙◌, IsChildAt, root_id, tree_nth, kids_of, forest}, moving.take_child.Goals.After-take_known_child-arg-1}
use Rattle.tree_handles.proofs.moving.take_child.Goals as goal

pub child_id-child-requires-clause-within : goal.child_id-child-requires-clause-within
child_id-child-requires-clause-within c = rw c.id.ensures c.requires.within

here : (c : After-take_known_child-arg-1) → IsChildAt c.args.at c.args.parent.now c.child_id-child.result (forest c.args.pool.now)
here c = record { within = c.requires.within; id-is = c.child_id-child.ensures.value ∙ ap (λ (k : ℕ). root_id (tree_nth c.args.at (kids_of k (forest c.args.pool.now)))) c.id.ensures }

pub take_known_child-requires-clause-known : goal.take_known_child-requires-clause-known
take_known_child-requires-clause-known c = (c.args.at, here c)
