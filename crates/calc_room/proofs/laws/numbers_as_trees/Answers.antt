use Rattle.calc_room.proofs.{Shared.{number_words}, NumberSpans.{value_spanned, tree_spanned}}
use Rattle.calc_room.proofs.laws.numbers_as_trees.Goals as goal

pub returns : goal.returns
returns c = λ gs t h. (value_spanned gs t (number_words t h), tree_spanned gs t (number_words t h))
