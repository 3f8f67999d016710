use Rattle.dual_diff.proofs.Shared.{arith}
use Rattle.dual_diff.proofs.derivation.derivative_bytes.Goals as goal

pub returns-clause-bytes : goal.returns-clause-bytes
returns-clause-bytes c = omega (arith, c.write_derivative.ensures.bytes, c.total.ensures, c.total.type_inv)
