use Rattle.expand_forms.proofs.Shared.{◌≡◌, [], take, AddsTrees, Monomial, factor_trees, KeepsFront, KeepsRefusals, Stands, forest, AreRead}
use Rattle.expand_forms.proofs.replacing.place_listed.Given as goal

abbrev pub invariant-loop-factor : goal.invariant-loop-factor
invariant-loop-factor l = record {
  placed : l.placed ≡ l.factor-index;
  adds : (m : Monomial) → AreRead l.factors m → AddsTrees (factor_trees (take l.factor-index m)) (forest l.fn.pool) (forest l.pool);
  front : KeepsFront [] (forest l.fn.pool) (forest l.pool);
  kept : KeepsRefusals l.fn.pool l.pool;
  stands : Stands l.pool;
}
