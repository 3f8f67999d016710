-- What is gone from `rest` was taken, and no write failed.
use Rattle.calc_edges.proofs.Shared.{◌≡◌, ℕ, ◌≤◌, length, take, drop, Appends, IsCalm}
use Rattle.calc_edges.proofs.sink.write_all.Given as goal

abbrev pub invariant-loop-rest : goal.invariant-loop-rest
invariant-loop-rest g l =
    (n : ℕ) × (n ≤ length l.bytes) × (l.rest ≡ drop n l.bytes)
    × Appends (g.K.Sink.taken l.fn.sink) (g.K.Sink.taken l.sink) (take n l.bytes)
    × IsCalm (g.K.Sink.faults l.fn.sink) (g.K.Sink.faults l.sink)

abbrev pub decreases-loop-rest : goal.decreases-loop-rest
decreases-loop-rest g l = length l.rest
