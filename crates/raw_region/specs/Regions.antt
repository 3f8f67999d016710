-- A region's fields.
use Rattle.std.specs.Prelude.{◌≡◌, List, ℕ, length}
use Rattle.raw_region.specs.declared.region.Region.TheInside.{Inside}

abbrev pub contents : Inside → List ℕ
contents r = r.block.bytes

-- all of the block is written, and the allocator is the block's
pub record IsWhole (r : Inside) : Type 0 where
  pub full : length r.block.bytes ≡ r.block.len
  pub alloc : r.block.alloc ≡ r.alloc
