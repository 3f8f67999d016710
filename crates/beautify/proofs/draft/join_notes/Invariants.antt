use Rattle.beautify.proofs.{Shared.{◌≤◌, length, vec_capacity, Tree, none, more, Forest, Stands, forest, KeepsRefusals, IsDraft}, Drafting.IsJoining}
use Rattle.beautify.proofs.draft.join_notes.Given as goal

abbrev pub invariant-loop-noted : goal.invariant-loop-noted
invariant-loop-noted l = record {
  joining : (base : Forest) (t : Tree) → IsDraft base (more t none) none l.fn.notes.items l.fn.pool → IsJoining base (more t none) l.notes.items (forest l.pool) l.root;
  kept : KeepsRefusals l.fn.pool l.pool;
  capacity : vec_capacity l.fn.notes ≤ vec_capacity l.notes;
  stands : Stands l.pool;
}

abbrev pub decreases-loop-noted : goal.decreases-loop-noted
decreases-loop-noted l = length l.notes.items
