use Rattle.calc_bits.proofs.{Shared.{terms_of, terms_proper}, Parts.{mass_of_same, held_same, held_same_by_one, held_same_with, same_without}}
use Rattle.calc_bits.proofs.laws.same_terms_are_held.Goals as goal

pub returns : goal.returns
returns c = record {
  mass = λ m e ts v a r. mass_of_same m e (terms_of ts) v (terms_proper ts a) r;
  held = λ ts v h l a r. held_same (terms_of ts) v h l (terms_proper ts a) r;
  by_one = λ ts v h l a r. held_same_by_one (terms_of ts) v h l (terms_proper ts a) r;
  with_more = λ ts v w h l a r. held_same_with (terms_of ts) v w h l (terms_proper ts a) r;
  without_more = same_without;
}
