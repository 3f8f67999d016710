use Rattle.raw_region.proofs.Shared.{◌≡◌, ◌≤◌, ◌-◌, replicate}
use Rattle.raw_region.proofs.region.fill.Given as goal

abbrev pub invariant-loop-i : goal.invariant-loop-i
invariant-loop-i l = record { len : l.block.len ≡ l.fn.block.len; alloc : l.block.alloc ≡ l.fn.block.alloc; within : l.i ≤ l.len; bytes : l.block.bytes ≡ replicate l.i 0 }

abbrev pub decreases-loop-i : goal.decreases-loop-i
decreases-loop-i l = l.len - l.i
