use Rattle.std.proofs.Common.{◌≡◌, ◌≤◌, ◌*◌, length, map, take}
use Rattle.calc_session.proofs.Shared.{name_of, num, IsReady}
use Rattle.calc_session.specs.RootTexts.{root_text, with_semicolons}
use Rattle.equation_roots.specs.Rationals.{rationals_of}
use Rattle.calc_session.proofs.root_text.write_rationals.Given as goal

abbrev pub invariant-loop-at : goal.invariant-loop-at
invariant-loop-at l = record {
  same : l.work.pool ≡ l.fn.work.pool;
  told : l.text.bytes ≡ with_semicolons (map (root_text (name_of l.name)) (map num (take l.at (rationals_of l.rationals))));
  short : length l.text.bytes ≤ 201 * l.at;
  capacity : l.text.capacity ≡ l.fn.text.capacity;
  ready : IsReady l.work;
}
