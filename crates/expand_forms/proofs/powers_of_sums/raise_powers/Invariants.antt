use Rattle.expand_forms.proofs.Shared.{◌≡◌, ◌≤◌, false, true, KeepsRefusals, Stands, Tree, children_of, count, forest, is_polynomial, tree_of, IsOverReady, has_power_of_sum, ChangesTree}
use Rattle.expand_forms.proofs.Nodes.{from}
use Rattle.expand_forms.proofs.powers_of_sums.raise_powers.Given as goal

abbrev pub invariant-loop-left : goal.invariant-loop-left
invariant-loop-left l = record {
  stands : Stands l.pool;
  kept : KeepsRefusals l.fn.pool l.pool;
  changed : ChangesTree l.tree (tree_of l.tree l.pool) (forest l.fn.pool) (forest l.pool);
  over : (whole : Tree) → is_polynomial whole ≡ true → IsOverReady whole (tree_of l.tree l.fn.pool) → IsOverReady whole (tree_of l.tree l.pool);
  within : l.left ≤ count (children_of (tree_of l.tree l.pool));
  raised : has_power_of_sum (from l.left (children_of (tree_of l.tree l.pool))) ≡ false;
}

abbrev pub decreases-loop-left : goal.decreases-loop-left
decreases-loop-left l = l.left
