use Rattle.calc_parser.proofs.{Shared.{◌∙◌, open_in}, Steps.some_completed}
use Rattle.calc_parser.proofs.reader.Reader.completed.Goals as goal

pub returns : goal.returns
returns c = λ ts. c.completed.ensures ts ∙ some_completed c.args.level (open_in c.args.self.now.nesting) c.in_ok-innermost.field-0 c.in_ok-innermost.ensures
