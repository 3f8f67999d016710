use Rattle.calc_measures.proofs.Shared.{refl, lowest, gcd, is_short}
use Rattle.calc_measures.proofs.examples.a_sum_measured.Goals as goal

pub returns : goal.returns
unfolding gcd lowest is_short
returns c = record {
  nodes = refl;
  depth = refl;
  size = refl;
  room = refl;
  high = refl;
  low = refl;
  bits = refl;
}
