use Rattle.calc_parser.proofs.Shared.{ap, ◌∙◌, state, sum_nodes, open_in, nodes_in}
use Rattle.calc_parser.proofs.reader.Reader.end_sum.Goals as goal

pub returns-clause-ended : goal.returns-clause-ended
returns-clause-ended c = λ ts.
    ap (λ x. state x (open_in c.gather.new.self.nesting) (nodes_in ts c.gather.new.self.postfix)) (c.gather.ensures.expects ∙ c.end_product-terms.ensures.expects)
    ∙ ap (λ s. state c.args.self.now.expects (open_in s) (nodes_in ts c.gather.new.self.postfix)) c.gather.ensures.nesting
    ∙ ap (λ o. state c.args.self.now.expects (open_in c.end_product-terms.new.self.nesting) o) (c.gather.ensures.nodes ts)
    ∙ ap (λ e. state c.args.self.now.expects e.nesting (sum_nodes e)) (c.end_product-terms.ensures.ended ts)
