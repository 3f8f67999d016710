use Rattle.number_forms.proofs.Shared.{◌≡◌, [], take, KeepsFront, KeepsRefusals, Stands, forest, Adds, trees_of}
use Rattle.number_forms.proofs.placing.place_all.Given as goal

abbrev pub invariant-loop-term : goal.invariant-loop-term
invariant-loop-term l = record {
  placed : l.placed ≡ l.term-index;
  adds : Adds (trees_of (take l.term-index l.terms)) (forest l.fn.pool) (forest l.pool);
  front : KeepsFront [] (forest l.fn.pool) (forest l.pool);
  kept : KeepsRefusals l.fn.pool l.pool;
  stands : Stands l.pool;
}
