use Rattle.tree_room.proofs.{Shared.{◌+◌, ◌*◌, ◌≤◌, arith}, Multiples.{scaled}}
use Rattle.tree_room.proofs.laws.joins_have_room.Goals as goal

pub returns-clause-exponents : goal.returns-clause-exponents
returns-clause-exponents d = λ c r x y h m s k l. let p : h * m ≤ (3 + x + y) * m = scaled h (3 + x + y) m k in omega (arith, p, l)

pub returns-clause-whole_power_of_a_product : goal.returns-clause-whole_power_of_a_product
returns-clause-whole_power_of_a_product d = λ c r x y m s h k l. let p : 1 * m ≤ (x + y) * m = scaled 1 (x + y) m k in let q : 1 * m ≤ c * m = scaled 1 c m h in omega (arith, p, q, l)

pub returns-clause-other_power : goal.returns-clause-other_power
returns-clause-other_power d = λ c r x y g m s k l. let p : g * m ≤ (1 + x + y) * m = scaled g (1 + x + y) m k in omega (arith, p, l)

pub returns-clause-again : goal.returns-clause-again
returns-clause-again d = λ h k m l. let p : h * m ≤ k * m = scaled h k m l in omega (arith, p)
