use Rattle.tree_bench.proofs.{Shared.{◌∙◌, ap, has_root, root_held, root-put}, handles.swaps.Goals.{then-children-gt1, else-children-gt1}}
use Rattle.tree_bench.proofs.handles.swaps.Goals as goal

pub children-children-requires-clause-live : goal.children-children-requires-clause-live
children-children-requires-clause-live g c = rw c.id.ensures (root_held c.args.sum.now _ c.loop.invariant.1)

pub loop-preserved : goal.loop-preserved
loop-preserved g c = elim c.if-children-gt1.branch [
  | then-children-gt1 w ↦
      let sum = c.args.sum.now in
      rw w.pool-is (w.swap_children.ensures.stands, ap (has_root sum) (w.swap_children.ensures.root c.loop.invariant.1) ∙ root-put sum sum _ _ ∙ c.loop.invariant.1)
  | else-children-gt1 w ↦ rw w.pool-is c.loop.invariant
]
