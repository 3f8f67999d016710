use Rattle.pool_layouts.proofs.Shared.{◌≡◌, replicate, extended}
use Rattle.pool_layouts.proofs.ink.repeat.Given as goal

abbrev pub invariant-loop : goal.invariant-loop
invariant-loop l = l.text ≡ extended l.fn.text (replicate l.counter l.byte)
