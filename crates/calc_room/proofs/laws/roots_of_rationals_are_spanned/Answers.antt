use Rattle.calc_room.proofs.{Shared.{number_words}, NumberSpans.{root_spanned}}
use Rattle.calc_room.proofs.laws.roots_of_rationals_are_spanned.Goals as goal

pub returns : goal.returns
returns c = λ gs q t h. root_spanned gs q t (number_words t h)
