use Rattle.calc_measures.proofs.Shared.{refl, lowest, gcd}
use Rattle.calc_measures.proofs.examples.an_inverse_measured.Goals as goal

pub returns : goal.returns
unfolding gcd lowest
returns c = record {
  nodes = refl;
  room = refl;
  high = refl;
  low = refl;
  bits = refl;
}
