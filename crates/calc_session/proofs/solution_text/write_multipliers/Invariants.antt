use Rattle.std.proofs.Common.{◌≡◌, ◌≤◌, ◌+◌, ◌*◌, ◌++◌, codes, length, map, take}
use Rattle.calc_session.proofs.Shared.{entries_of, operand_text, with_commas}
use Rattle.calc_session.proofs.solution_text.write_multipliers.Given as goal

abbrev pub invariant-loop-at : goal.invariant-loop-at
invariant-loop-at l = record {
  told : l.text.bytes ≡ codes "none " ++ with_commas (take l.at (map operand_text (entries_of l.multipliers)));
  short : length l.text.bytes ≤ 5 + 82 * l.at;
  capacity : l.text.capacity ≡ l.fn.text.capacity;
}
