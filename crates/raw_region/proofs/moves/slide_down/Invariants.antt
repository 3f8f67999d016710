use Rattle.raw_region.proofs.Shared.{◌≡◌, ◌-◌, ◌≤◌, length, slid}
use Rattle.raw_region.proofs.moves.slide_down.Given as goal

abbrev pub invariant-loop-done : goal.invariant-loop-done
invariant-loop-done g l = record { moved : l.bytes ≡ slid l.fn.bytes l.from l.to l.done; within : l.done ≤ l.len; same : length l.bytes ≡ length l.fn.bytes }

abbrev pub decreases-loop-done : goal.decreases-loop-done
decreases-loop-done g l = l.len - l.done
