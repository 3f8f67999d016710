use Rattle.std.proofs.Common.{◌≡◌, ◌≤◌, ◌*◌, length, map, take}
use Rattle.calc_session.proofs.Shared.{name_of, form_told, line_texts, with_commas, IsReady}
use Rattle.calc_session.proofs.solution_text.write_lines.Given as goal

abbrev pub invariant-loop-at : goal.invariant-loop-at
invariant-loop-at l = record {
  same : l.work.pool ≡ l.fn.work.pool;
  told : l.text.bytes ≡ with_commas (take l.at (line_texts (map name_of l.names) (map form_told l.lines)));
  short : length l.text.bytes ≤ 1408 * l.at;
  capacity : l.text.capacity ≡ l.fn.text.capacity;
  ready : IsReady l.work;
}
