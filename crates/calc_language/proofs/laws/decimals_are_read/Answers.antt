use Rattle.calc_language.proofs.Spelled.{decimal_is}
use Rattle.calc_language.proofs.laws.decimals_are_read.Goals as goal

pub returns : goal.returns
returns c = λ n. (decimal_is n).value
