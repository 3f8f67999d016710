use Rattle.tree_room.proofs.{Shared.{◌+◌, ◌*◌, ◌≤◌, arith}, Multiples.{scaled}}
use Rattle.tree_room.proofs.laws.parts_of_powers_have_room.Goals as goal

pub returns-clause-smaller : goal.returns-clause-smaller
returns-clause-smaller d = λ b c m h. let p : b * m ≤ c * m = scaled b c m h in omega (arith, p)

pub returns-clause-smaller_product : goal.returns-clause-smaller_product
returns-clause-smaller_product d = λ b c m h. let p : (1 + b) * m ≤ c * m = scaled (1 + b) c m h in omega (arith, p)

pub returns-clause-smaller_and_kept : goal.returns-clause-smaller_and_kept
returns-clause-smaller_and_kept d = λ b c g m h. let p : (b + g) * m ≤ (c + 2) * m = scaled (b + g) (c + 2) m h in omega (arith, p)
