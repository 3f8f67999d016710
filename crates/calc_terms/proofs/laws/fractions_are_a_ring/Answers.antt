use Rattle.calc_terms.proofs.Shared.{plus_comm, plus_assoc, zero_plus, plus_negative, times_comm, times_assoc, one_times, times_plus}
use Rattle.calc_terms.proofs.laws.fractions_are_a_ring.Goals as goal

pub returns : goal.returns
returns c = record {
  plus_commutes = plus_comm;
  plus_associates = plus_assoc;
  zero = zero_plus;
  negative = plus_negative;
  times_commutes = times_comm;
  times_associates = times_assoc;
  one = one_times;
  distributes = times_plus;
}
