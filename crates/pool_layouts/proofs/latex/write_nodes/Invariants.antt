use Rattle.pool_layouts.proofs.{Shared.{◌≡◌, ◌+◌, ◌*◌, ◌≤◌, ◌++◌, length, nodes_in, tree_at, forest, vec_capacity}, LatexTexts.{latex_parts}, LatexWalks.{IsWalk}}
use Rattle.calc_terms.specs.declared.kind.Kind.TheVariants as kind
use Rattle.pool_layouts.proofs.latex.write_nodes.Given as goal

abbrev pub invariant-loop-rest : goal.invariant-loop-rest
invariant-loop-rest l = record {
  walk : IsWalk (forest l.fn.pool) (nodes_in (tree_at l.fn.layout (forest l.fn.pool))) l.nodes l.rest l.outer.items l.text.bytes (l.fn.text.bytes ++ latex_parts kind.Row (tree_at l.fn.layout (forest l.fn.pool)));
  capacity : l.text.capacity ≡ l.fn.text.capacity;
  deep : vec_capacity l.fn.outer ≤ vec_capacity l.outer;
}

abbrev pub decreases-loop-rest : goal.decreases-loop-rest
decreases-loop-rest l = 2 * length l.nodes + length l.outer.items
