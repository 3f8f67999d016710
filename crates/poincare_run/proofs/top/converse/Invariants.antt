use Rattle.poincare_run.proofs.Shared.{place_of}
use Rattle.poincare_run.proofs.top.converse.Given as goal

-- the dialog begins here
abbrev pub ghost-serve : goal.ghost-serve
ghost-serve g a = record { start = (place_of g.B.Breaker.state a.self.now).now; told = g.S.Source.told a.source.now; taken = g.K.Sink.taken a.sink.now }
