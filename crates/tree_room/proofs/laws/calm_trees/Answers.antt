use Rattle.tree_room.proofs.{Shared.{number_words}, Calm.{number_calm, parts_calm, calm_append}}
use Rattle.tree_room.proofs.laws.calm_trees.Goals as goal

pub returns : goal.returns
returns c = record { number = λ f t h. number_calm f t (number_words t h); parts = parts_calm; joined = calm_append }
