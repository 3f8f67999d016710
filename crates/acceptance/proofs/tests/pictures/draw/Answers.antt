use Rattle.acceptance.proofs.Shared.{expression_root, given_handed}
use Rattle.pool_layouts.proofs.Given.{given_layout}
use Rattle.acceptance.proofs.tests.pictures.draw.Goals as goal

pub layout_of-requires-clause-expression : goal.layout_of-requires-clause-expression
layout_of-requires-clause-expression c = rw c.id.ensures (expression_root c.read.ensures.stands (given_handed c.in-Some.ensures.gives))

pub push_serial-requires-clause-layout : goal.push_serial-requires-clause-layout
push_serial-requires-clause-layout c = given_layout c.layout_of.ensures.stands c.in-Ok-layout_of.ensures.ok

pub push_rows-requires-clause-layout : goal.push_rows-requires-clause-layout
push_rows-requires-clause-layout c = given_layout c.layout_of.ensures.stands c.in-Ok-layout_of.ensures.ok
