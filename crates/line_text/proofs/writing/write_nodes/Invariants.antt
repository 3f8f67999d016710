use Rattle.line_text.proofs.{Shared.{◌≡◌, ◌+◌, ◌*◌, ◌≤◌, ◌++◌, length, nodes_in, tree_at, forest, WholeText, written, vec_capacity}, Walks.{IsWalk}}
use Rattle.line_text.proofs.writing.write_nodes.Given as goal

abbrev pub invariant-loop-rest : goal.invariant-loop-rest
invariant-loop-rest l = record {
  walk : IsWalk (forest l.fn.pool) (nodes_in (tree_at l.fn.root (forest l.fn.pool))) l.nodes l.rest l.outer.items l.page.bytes (l.fn.page.bytes ++ written WholeText (tree_at l.fn.root (forest l.fn.pool)));
  capacity : l.page.capacity ≡ l.fn.page.capacity;
  deep : vec_capacity l.fn.outer ≤ vec_capacity l.outer;
}

abbrev pub decreases-loop-rest : goal.decreases-loop-rest
decreases-loop-rest l = 2 * length l.nodes + length l.outer.items
