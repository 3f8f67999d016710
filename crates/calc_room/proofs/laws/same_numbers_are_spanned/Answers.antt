use Rattle.calc_room.proofs.{Shared.{number_words}, NumberSpans.{spans_same}}
use Rattle.calc_room.proofs.laws.same_numbers_are_spanned.Goals as goal

pub returns : goal.returns
returns c = λ gs t v h. spans_same gs t v (number_words t h)
