use Rattle.power_reduce.proofs.{Shared.{ap, ◌∙◌, is_reduced}, Whole.{first_is, first_reduced, whole_first, other_first}}
use Rattle.power_reduce.proofs.sides.first_exponent_is_opaque.Goals as goal

pub is_reduced_number-requires-clause-reduced : goal.is_reduced_number-requires-clause-reduced
is_reduced_number-requires-clause-reduced c = ap is_reduced (first_is _ _ _ c.base_id.ensures.tree c.requires.base (c.child_id-first.ensures.plain c.base_id.ensures.expression)) ∙ first_reduced _ c.requires.base c.requires.reduced

pub returns-in-Some : goal.returns-in-Some
returns-in-Some c = whole_first _ _ _ (first_is _ _ _ c.base_id.ensures.tree c.requires.base (c.child_id-first.ensures.plain c.base_id.ensures.expression)) c.in-Some.ensures.value

pub returns-in-None : goal.returns-in-None
returns-in-None c = other_first _ _ _ (first_is _ _ _ c.base_id.ensures.tree c.requires.base (c.child_id-first.ensures.plain c.base_id.ensures.expression)) c.in-None.ensures.value c.is_reduced_number.ensures
