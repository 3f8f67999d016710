use Rattle.std.proofs.Common.{◌≡◌, take}
use Rattle.equation_roots.specs.{Told.{wholes_of}, Wholes.{read}}
use Rattle.equation_roots.proofs.wholes.Wholes.copied.Given as goal

abbrev pub invariant-loop-at : goal.invariant-loop-at
invariant-loop-at l = wholes_of l.copy ≡ take l.at (read l.fn.backward (wholes_of l.self))
