use Rattle.tree_handles.proofs.Given.{given_handed}
use Rattle.acceptance.proofs.tests.small_faces.bytes_of_face.Goals as goal

pub answer-requires-clause-handed : goal.answer-requires-clause-handed
answer-requires-clause-handed g c = given_handed c.in-Some.ensures.gives
