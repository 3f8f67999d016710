use Rattle.poincare_run.proofs.Shared.{ℕ, List, take, IsCalm, Moment, Answered, Goes, place_of}
use Rattle.poincare_run.proofs.dialog.Dialog.answer.Given as goal

-- the bytes so far are answered, and no write failed
abbrev pub invariant-loop-byte : goal.invariant-loop-byte
invariant-loop-byte g l = record {
  calm : IsCalm (g.K.Sink.faults l.fn.sink) (g.K.Sink.faults l.sink);
  goes : (start : Moment) (before out : List ℕ) → Answered start before out (place_of g.B.Breaker.state l.fn.self)
      → Goes start before (take l.byte-index l.bytes) out (place_of g.B.Breaker.state l.self) (g.K.Sink.taken l.fn.sink) (g.K.Sink.taken l.sink);
}
