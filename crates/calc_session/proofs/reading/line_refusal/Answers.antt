use Rattle.calc_session.proofs.Shared.{subst, bare, IsFaultOf, forms_no_line, forms_a_deep_line}
use Rattle.calc_session.proofs.reading.line_refusal.Goals as goal

pub returns-in-Syntax-clause-refused : goal.returns-in-Syntax-clause-refused
returns-in-Syntax-clause-refused c = λ before text tokens cut fault. forms_no_line cut (subst (IsFaultOf (bare tokens)) c.in-Syntax.is fault)

pub returns-in-Deep-clause-refused : goal.returns-in-Deep-clause-refused
returns-in-Deep-clause-refused c = λ before text tokens cut fault. forms_a_deep_line cut (subst (IsFaultOf (bare tokens)) c.in-Deep.is fault)
