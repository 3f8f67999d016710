use Rattle.polynomials.proofs.{Shared.{ap, value_of, summand}, Exponents.{packed_zero}}
use Rattle.polynomials.proofs.term.Term.constant.Goals as goal

pub returns : goal.returns
returns c = ap (summand (value_of c.args.value)) packed_zero
