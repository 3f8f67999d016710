use Rattle.dual_diff.proofs.Shared.{◌-◌, Places, behind, first, children_of, tree_of}
use Rattle.dual_diff.proofs.placer.PlacerWriter.copies.Given as goal

abbrev pub invariant-loop-at : goal.invariant-loop-at
invariant-loop-at l = Places l.fn.pool l.pool l.fn.self.last l.self.last (first (l.at - l.from) (behind l.from (children_of (tree_of l.parent l.fn.pool))))
