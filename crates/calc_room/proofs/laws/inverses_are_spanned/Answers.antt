use Rattle.calc_room.proofs.{Shared.{number_words}, NumberSpans.{spans_inverse}}
use Rattle.calc_room.proofs.laws.inverses_are_spanned.Goals as goal

pub returns : goal.returns
returns c = λ gs a t h k. spans_inverse gs a t (number_words a h) (number_words t k)
