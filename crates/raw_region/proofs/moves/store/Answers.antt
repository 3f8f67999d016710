use Rattle.raw_region.proofs.{Shared.{refl, arith, slice_index_or}, Runs.{stored_all, stored_more}}
use Rattle.raw_region.proofs.moves.store.Goals as goal

pub loop-i-preserved : goal.loop-i-preserved
loop-i-preserved g c = stored_more c.loop-i.i c.args.at (slice_index_or c.args.run c.loop-i.i 0) c.args.run c.args.bytes.now c.loop-i.bytes (omega arith) (omega arith) refl c.loop-i.invariant

pub returns : goal.returns
returns g c = stored_all c.loop-i.i c.args.at c.args.run c.args.bytes.now c.loop-i.bytes (omega arith) (omega arith) c.loop-i.invariant
