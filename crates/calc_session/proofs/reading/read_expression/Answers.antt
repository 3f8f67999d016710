use Rattle.calc_session.proofs.Shared.{subst, tokens_of, name_in, ReadsText, forms_a_store, is_misread}
use Rattle.calc_session.proofs.reading.read_expression.Goals as goal

pub returns-in-None-clause-tree : goal.returns-in-None-clause-tree
returns-in-None-clause-tree c = let (t, r) = c.in-Ok.ensures.tree in (t, subst (λ s. ReadsText c.args.text.now (tokens_of c.read_text.new.parser) (name_in s) t) c.in-None.is r)

pub returns-in-Some-clause-refused : goal.returns-in-Some-clause-refused
returns-in-Some-clause-refused c = let (t, r) = c.in-Ok.ensures.tree in forms_a_store (subst (λ s. ReadsText c.args.text.now (tokens_of c.read_text.new.parser) (name_in s) t) c.in-Some.is r)

pub returns-in-Err-clause-refused : goal.returns-in-Err-clause-refused
returns-in-Err-clause-refused c = is_misread c.in-Err.ensures.refused
