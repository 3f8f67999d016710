use Rattle.tree_bench.proofs.Shared.{◌∙◌, inl, given_root, given_rest, given_handed, owned, handed_at, expression_root, root_held}
use Rattle.tree_bench.proofs.handles.copies.Goals.{in-Ok+in_ok-elapsed+in_ok-elapsed-2, in_default}
use Rattle.tree_bench.proofs.handles.copies.Goals as goal

pub copy_tree-requires-clause-live : goal.copy_tree-requires-clause-live
copy_tree-requires-clause-live g c = rw (c.id.ensures, c.loop.invariant.1) (root_held c.args.sum.now _ c.requires.handed.root)

pub release-requires-clause-releasable : goal.release-requires-clause-releasable
release-requires-clause-releasable g c =
    inl (given_root (c.in-Ok.ensures.given (rw c.id.ensures (expression_root c.loop.invariant.0 (handed_at c.requires.handed c.loop.invariant.1)))))

pub loop-preserved : goal.loop-preserved
loop-preserved g c = elim c.match-copy_tree.branch [
  | in-Ok+in_ok-elapsed+in_ok-elapsed-2 w ↦
      let given = w.in-Ok.ensures.given (rw c.id.ensures (expression_root c.loop.invariant.0 (handed_at c.requires.handed c.loop.invariant.1))) in
      rw w.pool-is (w.release.ensures.stands, w.release.ensures.owned (owned (given_handed given)) ∙ given_rest given ∙ c.loop.invariant.1)
  | in_default w ↦ rw w.pool-is (c.copy_tree.ensures.stands, w.in_default.ensures.full.same ∙ c.loop.invariant.1)
]
