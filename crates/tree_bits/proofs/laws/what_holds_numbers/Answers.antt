use Rattle.tree_bits.proofs.Numbers.{number_held, held_number}
use Rattle.tree_bits.proofs.laws.what_holds_numbers.Goals as goal

pub returns : goal.returns
returns c = record { held = number_held; exactly = λ t h l n. held_number n }
