-- What a drafter is to its callers.
use Rattle.std.specs.Prelude.{ℕ, ◌≡◌, ◌≤◌, ◌^◌, List, length}
use Rattle.tree_handles.specs.{declared.visits.Visit.{Visit}, Forest.{Forest}, Inside.{tree_at}, Visits.{visits_of}}
use Rattle.pool_layouts.specs.{declared.extents.Extent.{Extent}, Extents.{HasExtents}}

-- the most bytes of the pools that it serves, the nodes of the tree that was listed last, and the extents of these
pub record Draft : Type 0 where
  pub pool_size : ℕ
  pub nodes : List Visit
  pub extents : List Extent

-- the nodes of this tree are listed, with their extents
pub record Measures (d : Draft) (i : ℕ) (f : Forest) : Type 0 where
  pub listed : d.nodes ≡ visits_of (tree_at i f)
  pub measured : HasExtents (tree_at i f) 0 d.extents
  pub few : length d.extents ≤ 2 ^ 16
