use Rattle.equation_roots.proofs.Sizes.{held_has_few_bits}
use Rattle.equation_roots.proofs.laws.held_coefficients_have_few_bits.Goals as goal

pub returns : goal.returns
returns c = held_has_few_bits
