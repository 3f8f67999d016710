use Rattle.calc_parser.proofs.Shared.{◌++◌, ap, ◌∙◌, gathered, end_part, open_in, nodes_in}
use Rattle.calc_terms.specs.declared.kind.Kind.TheVariants as kind
use Rattle.calc_parser.specs.declared.nesting.Level.TheVariants as level
use Rattle.calc_parser.proofs.reader.Reader.end_product.Goals as goal

pub returns-clause-ended : goal.returns-clause-ended
returns-clause-ended c = λ ts.
    c.end.ensures.ended ts
    ∙ ap (λ s. end_part level.Term (open_in s) (nodes_in ts c.gather.new.self.postfix)) c.gather.ensures.nesting
    ∙ ap (λ o. end_part level.Term (open_in c.end_powers-factors.new.self.nesting) o) (c.gather.ensures.nodes ts)
    ∙ ap (λ e. end_part level.Term e.nesting (e.nodes ++ gathered kind.Mult e.count)) (c.end_powers-factors.ensures.ended ts)
