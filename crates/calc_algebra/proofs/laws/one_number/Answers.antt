use Rattle.calc_algebra.proofs.{NumberLaws.{number_words}, NumberUniqueness.{one_number}}
use Rattle.calc_algebra.proofs.laws.one_number.Goals as goal

pub returns : goal.returns
returns c = λ t u h k s x e. one_number t u (number_words t h) (number_words u k) s x e
