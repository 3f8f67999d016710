use Rattle.calc_terms.proofs.Shared.{gcd_is}
use Rattle.calc_terms.proofs.laws.computed_numbers.Goals as goal

pub returns : goal.returns
returns c = gcd_is
