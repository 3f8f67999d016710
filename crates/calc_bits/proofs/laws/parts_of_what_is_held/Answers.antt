use Rattle.calc_bits.proofs.Parts.{held_left, held_right, held_pair}
use Rattle.calc_bits.proofs.laws.parts_of_what_is_held.Goals as goal

pub returns : goal.returns
returns c = record {
  front = held_left;
  end = held_right;
  pair = held_pair;
}
