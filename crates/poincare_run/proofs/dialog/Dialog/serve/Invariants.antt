use Rattle.poincare_run.proofs.Shared.{IsCalm, IsUnderWay, place_of}
use Rattle.poincare_run.proofs.dialog.Dialog.serve.Given as goal

-- what was read so far is answered, up to the rest behind its last newline, and nothing failed
abbrev pub invariant-loop-left : goal.invariant-loop-left
invariant-loop-left g l = record {
  under_way : IsUnderWay (place_of g.B.Breaker.state l.fn.self).now (g.S.Source.told l.fn.source) (g.S.Source.told l.source) (g.K.Sink.taken l.fn.sink) (g.K.Sink.taken l.sink) l.left (place_of g.B.Breaker.state l.self);
  reads_calm : IsCalm (g.S.Source.faults l.fn.source) (g.S.Source.faults l.source);
  writes_calm : IsCalm (g.K.Sink.faults l.fn.sink) (g.K.Sink.faults l.sink);
}

abbrev pub decreases-loop-left : goal.decreases-loop-left
decreases-loop-left g l = l.left

-- it began where the caller says
abbrev pub ghost-read_piece : goal.ghost-read_piece
ghost-read_piece g a = g.outset
