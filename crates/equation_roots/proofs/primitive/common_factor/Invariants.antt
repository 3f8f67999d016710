use Rattle.std.proofs.Common.{ℕ, ◌<◌, pos, nat_abs, get_or}
use Rattle.std.specs.Int.{◌∣◌}
use Rattle.equation_roots.specs.Told.{wholes_of}
use Rattle.equation_roots.proofs.primitive.common_factor.Given as goal

abbrev pub invariant-loop-at : goal.invariant-loop-at
invariant-loop-at l = (k : ℕ) → k < l.at → l.shared ∣ nat_abs (get_or (wholes_of l.wholes) k (pos 0))
