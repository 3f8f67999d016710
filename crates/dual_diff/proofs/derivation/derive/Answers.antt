use Rattle.dual_diff.proofs.Shared.{front_end, front_same, subst, forest, KeepsFront}
use Rattle.std.specs.Prelude.{[]}
use Rattle.dual_diff.proofs.derivation.derive.Goals as goal

pub returns-clause-front : goal.returns-clause-front
returns-clause-front c = subst (λ s. KeepsFront [] (forest s) (forest c.place_derivative.new.pool)) c.derivative_bytes-needed.ensures.same (front_end c.place_derivative.ensures.gives.ends front_same)
