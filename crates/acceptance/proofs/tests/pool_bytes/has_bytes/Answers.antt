use Rattle.tree_handles.proofs.Given.{given_handed}
use Rattle.acceptance.proofs.tests.pool_bytes.has_bytes.Goals as goal

pub reduce-requires-clause-handed : goal.reduce-requires-clause-handed
reduce-requires-clause-handed g c = given_handed c.in-Some.ensures.gives
