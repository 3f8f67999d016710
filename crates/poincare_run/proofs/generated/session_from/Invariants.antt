use Rattle.poincare_run.proofs.Shared.{◌≡◌, ◌<◌, first_lines, seed}
use Rattle.poincare_run.proofs.generated.session_from.Given as goal

-- the first lines are made, and this is the seed of the last one
abbrev pub invariant-loop-k : goal.invariant-loop-k
invariant-loop-k l = record {
  lines : l.lines.items ≡ first_lines l.number l.k;
  seed : l.seed ≡ seed l.number l.k;
  small : l.seed < 65537;
}
