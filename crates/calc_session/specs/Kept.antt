-- The parts of a session.
use Rattle.std.specs.Prelude.{◌≡◌, ◌*◌, ◌+◌, ◌≤◌}
use Rattle.name_table.specs.Held.{IsHeld}
use Rattle.tree_handles.specs.Standing.{Stands, forest}
use Rattle.calc_session.specs.{Forms.{solution_room}, declared.parts.Parts.{Parts}, declared.parts.Workspace.{Workspace}, Seen.{Seen}, States.{State, state_of}}

-- what is kept from line to line
abbrev pub state_in : Parts → State
state_in p = state_of p.work.pool p.table

abbrev pub seen_of : Parts → Seen
seen_of p = record {
  state = state_in p;
  refusals = p.work.pool.refusals;
  last_refused = p.work.pool.last_refused;
  text = p.text.bytes;
}

-- the pool stands, and the lists suffice for the face of any tree in it
pub record IsReady (w : Workspace) : Type 0 where
  pub stands : Stands w.pool
  pub lists : w.pool.size ≤ w.faces

-- the pool stands for exactly the trees of the table, and there is room for the text of any tree in it, for drawing it, and for writing faces
pub record IsKept (p : Parts) : Type 0 where
  pub ready : IsReady p.work
  pub held : IsHeld p.table (forest p.work.pool)
  pub room : p.text.capacity ≡ 3 * p.work.pool.size + solution_room
  pub served : p.drafter.pool_size ≡ p.work.pool.size
