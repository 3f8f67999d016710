use Rattle.calc_parser.proofs.{Shared.{subst, token_of, open_in, nodes_in, state_in, IsStep}, Finishes.parenthesis_step}
use Rattle.calc_parser.proofs.reader.Reader.take.Goals as goal

pub returns-in-Parenthesis-clause-step : goal.returns-in-Parenthesis-clause-step
returns-in-Parenthesis-clause-step c = λ ts at.
    subst (IsStep c.take_parenthesis.result (state_in ts c.take_parenthesis.new.self))
    (parenthesis_step c.args.self.now.expects (open_in c.args.self.now.nesting) (nodes_in ts c.args.self.now.postfix) (token_of c.args.what) c.in-Parenthesis.is) (c.take_parenthesis.ensures.step ts)
