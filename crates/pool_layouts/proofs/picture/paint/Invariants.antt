use Rattle.pool_layouts.proofs.{Shared.{◌≡◌, ◌≤◌, ℕ, List, vec_capacity, forest, IsLine}, Painted.{IsPainting, total_weight}}
use Rattle.pool_layouts.proofs.picture.paint.Given as goal

abbrev pub invariant-loop-step : goal.invariant-loop-step
invariant-loop-step l = record {
  painting : (line : List ℕ) → IsLine (forest l.pool) l.cells l.extents l.fn.steps.items line → IsPainting (forest l.pool) l.cells l.extents l.steps.items l.blanks l.text.bytes l.fn.text.bytes line;
  capacity : l.text.capacity ≡ l.fn.text.capacity;
  deep : vec_capacity l.fn.steps ≤ vec_capacity l.steps;
}

abbrev pub decreases-loop-step : goal.decreases-loop-step
decreases-loop-step l = total_weight l.steps.items
