use Rattle.calc_parser.proofs.{Shared.{open_in, nodes_in}, Finishes.{nothing_open, something_open}}
use Rattle.calc_parser.proofs.reader.Reader.finish.Goals as goal

pub returns-in-None : goal.returns-in-None
returns-in-None c = λ ts.
    nothing_open c.args.self.now.expects c.end_sum.new.self.expects (open_in c.args.self.now.nesting) (open_in c.end_sum.new.self.nesting) (nodes_in ts c.args.self.now.postfix) (nodes_in ts c.end_sum.new.self.postfix)
    c.in-Operator.is (c.end_sum.ensures.ended ts) c.in-None.ensures

pub returns-in-Some : goal.returns-in-Some
returns-in-Some c = λ ts.
    something_open c.args.self.now.expects c.end_sum.new.self.expects (open_in c.args.self.now.nesting) (open_in c.end_sum.new.self.nesting) (nodes_in ts c.args.self.now.postfix) (nodes_in ts c.end_sum.new.self.postfix)
    c.in-Operator.is (c.end_sum.ensures.ended ts) c.in-Some.field-0 c.in-Some.ensures
