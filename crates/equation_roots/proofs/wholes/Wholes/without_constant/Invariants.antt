use Rattle.std.proofs.Common.{◌≡◌, take, drop}
use Rattle.equation_roots.specs.Told.{wholes_of}
use Rattle.equation_roots.proofs.wholes.Wholes.without_constant.Given as goal

abbrev pub invariant-loop-at : goal.invariant-loop-at
invariant-loop-at l = wholes_of l.rest ≡ take l.at (drop 1 (wholes_of l.self))
