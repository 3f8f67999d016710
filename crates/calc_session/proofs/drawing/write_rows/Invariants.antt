use Rattle.calc_session.proofs.Shared.{◌≡◌, Appends, Measures, drawing, picture, tree_at, forest, first_rows, IsCalm}
use Rattle.calc_session.proofs.drawing.write_rows.Given as goal

-- the first rows are written, and no write failed
abbrev pub invariant-loop-row : goal.invariant-loop-row
invariant-loop-row g l = record {
  capacity : l.text.capacity ≡ l.fn.text.capacity;
  measured : Measures l.drafter l.layout (forest l.pool);
  served : l.drafter.pool_size ≡ l.fn.drafter.pool_size;
  calm : IsCalm (g.K.Sink.faults l.fn.sink) (g.K.Sink.faults l.sink);
  taken : Appends (g.K.Sink.taken l.fn.sink) (g.K.Sink.taken l.sink) (first_rows (picture (drawing (tree_at l.layout (forest l.pool)))) l.row);
}
