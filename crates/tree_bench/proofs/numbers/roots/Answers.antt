use Rattle.tree_bench.proofs.Shared.{◌∙◌, refl, first_handed, pair_apart, first_told, pair_rest, rational_test, given_handed, given_told, gives_as}
use Rattle.tree_bench.proofs.numbers.roots.Goals as goal

pub loop-prime-init : goal.loop-prime-init
loop-prime-init c = (c.in_ok-sum.ensures.stands, gives_as c.in_ok-sum.ensures.given refl (λ t e. rational_test t _ e))

pub add_numbers-requires-clause-first : goal.add_numbers-requires-clause-first
add_numbers-requires-clause-first c = first_handed c.loop-prime.invariant.1 c.in_ok-root.ensures.ok

pub add_numbers-requires-clause-second : goal.add_numbers-requires-clause-second
add_numbers-requires-clause-second c = given_handed c.in_ok-root.ensures.ok

pub add_numbers-requires-clause-apart : goal.add_numbers-requires-clause-apart
add_numbers-requires-clause-apart c = pair_apart c.loop-prime.sum c.in_ok-root.root c.loop-prime.invariant.1 c.in_ok-root.ensures.ok

pub add_numbers-requires-clause-first_number : goal.add_numbers-requires-clause-first_number
add_numbers-requires-clause-first_number c = first_told c.loop-prime.invariant.1 c.in_ok-root.ensures.ok ∙ given_told c.loop-prime.invariant.1

pub add_numbers-requires-clause-second_number : goal.add_numbers-requires-clause-second_number
add_numbers-requires-clause-second_number c = given_told c.in_ok-root.ensures.ok

pub loop-prime-preserved : goal.loop-prime-preserved
loop-prime-preserved c = (c.in_ok-sum-2.ensures.stands, gives_as c.in_ok-sum-2.ensures.ok (pair_rest c.loop-prime.invariant.1 c.in_ok-root.ensures.ok) (λ t h. h.number))
