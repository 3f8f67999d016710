use Rattle.rational128.proofs.{Shared.{◌^◌}, Newton.{IsUpper}}
use Rattle.rational128.proofs.square_root.isqrt_64.Given as goal

abbrev pub invariant-loop-root : goal.invariant-loop-root
invariant-loop-root l = IsUpper l.n l.root (2 ^ 32)

abbrev pub decreases-loop-root : goal.decreases-loop-root
decreases-loop-root l = l.root
