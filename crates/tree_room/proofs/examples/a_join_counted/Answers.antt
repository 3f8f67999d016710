use Rattle.std.proofs.Common.{refl}
use Rattle.calc_algebra.specs.Numbers.{is_number}
use Rattle.calc_terms.specs.{Fractions.{lowest}, Gcd.{gcd}}
use Rattle.tree_room.proofs.examples.a_join_counted.Goals as goal

pub returns-clause-apart : goal.returns-clause-apart
unfolding is_number gcd lowest
returns-clause-apart c = refl

pub returns-clause-joined : goal.returns-clause-joined
unfolding is_number gcd lowest
returns-clause-joined c = refl
