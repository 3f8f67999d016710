use Rattle.tree_handles.proofs.{Shared.{arith, common_steps, [], ap, ◌∙◌, refl, payload_of, fresh, State, has}, Parts.has_mid, Copies.copied_node}
use Rattle.tree_handles.proofs.copy.copy_node.Goals as goal

pub place-requires : goal.place-requires
place-requires c = c.leaf_at-leaf.ensures.usable

pub set_children-requires : goal.set_children-requires
set_children-requires c = ap (λ (s : State). has c.in-Ok.id s.nodes) c.in-Ok.ensures.ok ∙ has_mid c.in-Ok.id c.args.pool.now.nodes (fresh c.in-Ok.id (payload_of c.leaf_at-leaf.result)) [] refl

pub returns-clause-nodes : goal.returns-clause-nodes
returns-clause-nodes c = grind (arith, common_steps, copied_node)
