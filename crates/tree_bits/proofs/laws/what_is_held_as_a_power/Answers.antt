use Rattle.tree_bits.proofs.Powers.{held_as_power, held_as_inverse, inverse_raised}
use Rattle.tree_bits.proofs.laws.what_is_held_as_a_power.Goals as goal

pub returns : goal.returns
returns c = record { powers = held_as_power; inverses = held_as_inverse; inverses_raised = inverse_raised }
