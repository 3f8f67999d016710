use Rattle.acceptance.proofs.Shared.{given_handed}
use Rattle.acceptance.proofs.tests.shapes.is_read_as.Goals as goal

pub written-requires-clause-handed : goal.written-requires-clause-handed
written-requires-clause-handed c = given_handed c.in-Some.ensures.gives
