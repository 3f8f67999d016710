use Rattle.calc_room.proofs.{Shared.{reduced_words}, TreeBytes.{tree_bytes, factor_bytes, base_bytes}}
use Rattle.calc_room.proofs.laws.reduced_trees_are_small.Goals as goal

pub returns : goal.returns
returns c = record {
  factor = λ gs t h. factor_bytes gs t (reduced_words t h);
  base = λ gs t h. base_bytes gs t (reduced_words t h);
  bytes = λ gs t h. tree_bytes gs t (reduced_words t h);
}
