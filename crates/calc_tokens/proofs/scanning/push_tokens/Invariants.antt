use Rattle.std.proofs.Common.{length}
use Rattle.calc_tokens.proofs.{Shared.tokens_of, Scans.Reached}
use Rattle.calc_tokens.proofs.scanning.push_tokens.Given as goal

abbrev pub invariant-loop-first : goal.invariant-loop-first
invariant-loop-first l = Reached l.line (tokens_of l.tokens) l.rest

abbrev pub decreases-loop-first : goal.decreases-loop-first
decreases-loop-first l = length l.rest
