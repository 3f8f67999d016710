use Rattle.poincare_run.proofs.Shared.{◌≤◌, take, Tallied, place_of, IsWithin}
use Rattle.poincare_run.proofs.dialog.Dialog.tally.Given as goal

-- the answers to the lines of the bytes so far are counted
abbrev pub invariant-loop-byte : goal.invariant-loop-byte
invariant-loop-byte g l = record {
  tallied : Tallied (place_of g.B.Breaker.state l.fn.self).now (take l.byte-index l.bytes) l.tally (place_of g.B.Breaker.state l.self);
  few : l.tally.lines ≤ l.byte-index;
  within : IsWithin l.tally;
}
