use Rattle.tree_bits.proofs.Powers.{part_raised, part_turned, addend_raised}
use Rattle.tree_bits.proofs.laws.what_holds_part_powers.Goals as goal

pub returns : goal.returns
returns c = record { raised = part_raised; turned = part_turned; with_coefficients = addend_raised }
