use Rattle.std.proofs.Common.{refl}
use Rattle.calc_algebra.specs.Numbers.{is_number}
use Rattle.calc_terms.specs.{Fractions.{lowest}, Gcd.{gcd}}
use Rattle.tree_room.proofs.examples.an_opposite_has_room.Goals as goal

pub returns-clause-count : goal.returns-clause-count
unfolding is_number gcd lowest
returns-clause-count c = refl
