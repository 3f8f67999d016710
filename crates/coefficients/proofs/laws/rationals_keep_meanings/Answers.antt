use Rattle.coefficients.proofs.{Shared.{keeps}, Keeps.{term_keeps, sum_keeps}}
use Rattle.coefficients.proofs.laws.rationals_keep_meanings.Goals as goal

pub returns : goal.returns
returns c = record { term = λ q t. keeps (term_keeps q t); sum = λ q ts. keeps (sum_keeps q ts) }
