use Rattle.tree_room.proofs.{Shared.{arith, power, sub, div}, Rooms.{term_room, factor_room, root_room, opposite_room, pair_room, two_simple, power_simple}}
use Rattle.tree_room.proofs.laws.children_have_room.Goals as goal

pub returns : goal.returns
returns c = record {
  terms = λ ts us t h. omega (arith, term_room ts us t h);
  factors = λ ts us t h. omega (arith, factor_room ts us t h);
  bases = λ b e h. pair_room (power b e) b e (omega arith) (omega arith) h (power_simple b e h).0;
  exponents = λ b e h. pair_room (power b e) e b (omega arith) (omega arith) h (power_simple b e h).1;
  arguments = root_room;
  opposites = opposite_room;
  minuends = λ a b h. pair_room (sub a b) a b (omega arith) (omega arith) h (two_simple a b h).0;
  subtrahends = λ a b h. pair_room (sub a b) b a (omega arith) (omega arith) h (two_simple a b h).1;
  dividends = λ a b h. pair_room (div a b) a b (omega arith) (omega arith) h (two_simple a b h).0;
  divisors = λ a b h. pair_room (div a b) b a (omega arith) (omega arith) h (two_simple a b h).1;
}
