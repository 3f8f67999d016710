use Rattle.calc_bits.proofs.{Shared.{terms_of, terms_proper}, NoLarger.{held_so_far}}
use Rattle.calc_bits.proofs.laws.sums_so_far_are_held.Goals as goal

pub returns : goal.returns
returns c = λ ts v w h l a. held_so_far (terms_of ts) v w h l (terms_proper ts a)
