use Rattle.raw_region.proofs.Shared.{◌≡◌, ◌+◌, ◌-◌, ◌≤◌, length, slid}
use Rattle.raw_region.proofs.moves.slide_up.Given as goal

abbrev pub invariant-loop-left : goal.invariant-loop-left
invariant-loop-left g l = record { moved : l.bytes ≡ slid l.fn.bytes (l.from + l.left) (l.to + l.left) (l.len - l.left); within : l.left ≤ l.len; same : length l.bytes ≡ length l.fn.bytes }

abbrev pub decreases-loop-left : goal.decreases-loop-left
decreases-loop-left g l = l.left
