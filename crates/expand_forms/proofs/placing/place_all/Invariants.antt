use Rattle.expand_forms.proofs.Shared.{◌≡◌, [], take, AddsTrees, term_trees, KeepsFront, KeepsRefusals, Stands, forest, named_terms}
use Rattle.expansions.specs.Named.{names_of}
use Rattle.expand_forms.proofs.placing.place_all.Given as goal

abbrev pub invariant-loop-term : goal.invariant-loop-term
invariant-loop-term l = record {
  placed : l.placed ≡ l.term-index;
  adds : AddsTrees (term_trees (named_terms (names_of l.names) (take l.term-index l.terms))) (forest l.fn.pool) (forest l.pool);
  front : KeepsFront [] (forest l.fn.pool) (forest l.pool);
  kept : KeepsRefusals l.fn.pool l.pool;
  stands : Stands l.pool;
}
