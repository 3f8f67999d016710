-- What a block ends as, once a `&mut` to its bytes has ended.
use Rattle.std.specs.{Prelude.{ℕ, List, length}, Borrow.{Fml, RattleType, MutBor, Array, Lends, u8}, List.{refill}}
use Rattle.core.specs.declared.alloc.Allocator.{Ghosts}
use Rattle.raw_region.specs.{declared.block.Block.{Block}, contracts.block.Block.{the_row}}

-- a block with these bytes, as many as there were, in place of its own
abbrev pub rewritten : {A : Type 0} → Block A → List ℕ → Block A
rewritten b ws = record { start = b.start; len = b.len; mark = b.mark; bytes = refill (length b.bytes) b.bytes ws; alloc = b.alloc }

abbrev pub lends_written : (A : RattleType) (g : Ghosts A.Denot) → MutBor (Block A.Denot) → MutBor (List ℕ) → Fml
lends_written A g b r = Lends (the_row A g) (Array u8 0) b r (rewritten b.now)
