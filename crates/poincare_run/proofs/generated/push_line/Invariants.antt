use Rattle.poincare_run.proofs.Shared.{◌≡◌, ◌++◌, take, with_digits}
use Rattle.poincare_run.proofs.generated.push_line.Given as goal

-- the bytes so far stand behind the lines
abbrev pub invariant-loop-byte : goal.invariant-loop-byte
invariant-loop-byte l = l.lines.items ≡ l.fn.lines.items ++ with_digits l.a l.b (take l.byte-index l.byte-items)
