use Rattle.acceptance.proofs.Shared.{given_handed}
use Rattle.acceptance.proofs.tests.round_trips.is_read_again.Goals as goal

pub written-requires-clause-handed : goal.written-requires-clause-handed
written-requires-clause-handed c = given_handed c.in-Some.ensures.gives

pub is_tree_of-requires-clause-handed : goal.is_tree_of-requires-clause-handed
is_tree_of-requires-clause-handed c = given_handed c.in-Some.ensures.gives
