use Rattle.std.proofs.Common.{◌≡◌, length}
use Rattle.calc_tokens.proofs.Shared.{trimmed}
use Rattle.calc_tokens.proofs.literals.trimmed.Given as goal

abbrev pub invariant-loop-last : goal.invariant-loop-last
invariant-loop-last l = trimmed l.kept ≡ trimmed l.fn.digits

abbrev pub decreases-loop-last : goal.decreases-loop-last
decreases-loop-last l = length l.kept
