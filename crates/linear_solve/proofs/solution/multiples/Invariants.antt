use Rattle.linear_solve.proofs.Shared.{◌≡◌, length, map, ◌==◌, range_with_len, negative, zero_fraction, entry, entries_of}
use Rattle.std.proofs.Common.{if◌then◌else◌}
use Rattle.linear_solve.proofs.solution.multiples.Given as goal

abbrev pub invariant-loop-at : goal.invariant-loop-at
invariant-loop-at l = record {
  made : entries_of l.coefs ≡ map (λ j. if j == l.own then zero_fraction else negative (entry j (entries_of l.row))) (range_with_len 0 l.at);
  long : length (entries_of l.coefs) ≡ l.at;
}
