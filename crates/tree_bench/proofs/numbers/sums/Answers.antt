use Rattle.tree_bench.proofs.Shared.{◌∙◌, inl, first_handed, pair_apart, first_told, given_handed, given_root, given_told}
use Rattle.tree_bench.proofs.numbers.sums.Goals as goal

pub add_numbers-requires-clause-first : goal.add_numbers-requires-clause-first
add_numbers-requires-clause-first _ c = first_handed c.in-Ok.ensures.ok c.in-Ok-roots.ensures.ok

pub add_numbers-requires-clause-second : goal.add_numbers-requires-clause-second
add_numbers-requires-clause-second _ c = given_handed c.in-Ok-roots.ensures.ok

pub add_numbers-requires-clause-apart : goal.add_numbers-requires-clause-apart
add_numbers-requires-clause-apart _ c = pair_apart c.in-Ok.a c.in-Ok-roots.b c.in-Ok.ensures.ok c.in-Ok-roots.ensures.ok

pub add_numbers-requires-clause-first_number : goal.add_numbers-requires-clause-first_number
add_numbers-requires-clause-first_number _ c = first_told c.in-Ok.ensures.ok c.in-Ok-roots.ensures.ok ∙ given_told c.in-Ok.ensures.ok

pub add_numbers-requires-clause-second_number : goal.add_numbers-requires-clause-second_number
add_numbers-requires-clause-second_number _ c = given_told c.in-Ok-roots.ensures.ok

pub release-requires-clause-releasable : goal.release-requires-clause-releasable
release-requires-clause-releasable _ c = inl (given_root c.in-Ok-add_numbers.ensures.ok)
