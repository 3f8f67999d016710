-- Nodes of a face whose layouts are under way.
use Rattle.std.specs.Prelude.{ℕ, ◌+◌, ◌-◌, Option}
use Rattle.calc_terms.specs.declared.kind.Kind.{Kind}
use Rattle.tree_handles.specs.declared.visits.Visit.{Visit}
use Rattle.pool_layouts.specs.declared.frames.Frame.{Frame}
use Rattle.line_text.specs.Places.{first_place, next_place}

-- a node before its children
abbrev pub frame_of : Visit → Option Kind → ℕ → Frame
frame_of c around begin = record { id = c.id; place = first_place c.kind; left = c.children; parts = 0; begin = begin; around = around }

-- the same when its next child is under way
abbrev pub frame_behind : Frame → ℕ → Frame
frame_behind f marks = record f { place = next_place f.place; left = f.left - 1; parts = f.parts + marks + 1 }
