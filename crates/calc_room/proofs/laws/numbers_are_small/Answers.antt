use Rattle.calc_room.proofs.{Shared.{◌≤◌, ◌+◌, ◌*◌, ◌^◌, length, arith, size, number_words}, NumberBytes.{number_classes, number_roots, number_bytes}}
use Rattle.calc_room.proofs.laws.numbers_are_small.Goals as goal

pub returns : goal.returns
returns c = record {
  classes = λ gs t h. number_classes gs t (number_words t h);
  roots = λ gs t h. number_roots gs t (number_words t h);
  bytes = λ gs t h s. let l : size t + 48 ≤ 96 * 2 ^ length gs = number_bytes gs t (number_words t h) s in omega arith;
}
