use Rattle.calc_parser.proofs.{Shared.{ap, bare, tokens_of, steps_in}, LineSteps.steps_of_nothing}
use Rattle.calc_parser.proofs.parser.Parser.open.Goals as goal

pub invariant_of-result : goal.invariant_of-result
invariant_of-result c =
    steps_of_nothing (steps_in c.in_ok-reader.reader.value.postfix) (bare (tokens_of c.in_ok-tokens.tokens))
    (ap bare c.in_ok-tokens.ensures)
