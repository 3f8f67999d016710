use Rattle.calc_terms.proofs.Shared.{◌≡◌, ◌+◌, ◌-◌, ◌≤◌, length, drop, before_zero}
use Rattle.calc_terms.proofs.name.Name.len.Given as goal

abbrev pub invariant-loop-len : goal.invariant-loop-len
invariant-loop-len l = record {
  within : l.len ≤ 8;
  rest : l.len + length (before_zero (drop l.len l.self.text)) ≡ length (before_zero l.self.text);
}

abbrev pub decreases-loop-len : goal.decreases-loop-len
decreases-loop-len l = 8 - l.len
