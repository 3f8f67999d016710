-- A drafter's fields.
use Rattle.std.specs.Prelude.{◌<◌, ◌*◌, vec_capacity}
use Rattle.pool_layouts.specs.{declared.drafter.Drafter.TheInside.{Inside}, Drafts.{Draft}}

abbrev pub draft_of : Inside → Draft
draft_of d = record { pool_size = d.pool_size; nodes = d.cells.items; extents = d.extents.items }

-- each list has room for one node more than such a pool has, a node having 8 bytes at least
pub record HasRoom (d : Inside) : Type 0 where
  pub cells : d.pool_size < 8 * vec_capacity d.cells
  pub extents : d.pool_size < 8 * vec_capacity d.extents
  pub under_way : d.pool_size < 8 * vec_capacity d.under_way
  pub steps : d.pool_size < 8 * vec_capacity d.steps
