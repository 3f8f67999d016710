use Rattle.beautify.proofs.{Shared.{◌+◌, ◌*◌, ◌<◌, ◌≤◌, length, vec_capacity, plain, tree_at, Stands, forest, free_of, rooms}, Steps.IsWriting}
use Rattle.beautify.proofs.faces.write_face.Given as goal

abbrev pub invariant-loop-next : goal.invariant-loop-next
invariant-loop-next l = record {
  writing : IsWriting l.fn.pool (plain (tree_at l.fn.tree (forest l.fn.pool))) l.pool l.notes.items l.pending.items;
  few : free_of l.pool + 8 * length l.notes.items < 8 * vec_capacity l.notes;
  notes : vec_capacity l.fn.notes ≤ vec_capacity l.notes;
  pending : vec_capacity l.fn.pending ≤ vec_capacity l.pending;
  stands : Stands l.pool;
}

abbrev pub decreases-loop-next : goal.decreases-loop-next
decreases-loop-next l = rooms l.pending.items (forest l.pool)
