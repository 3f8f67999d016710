-- What a parser keeps of a line.
use Rattle.calc_tokens.specs.{Placed.{bare}, Tokens.{tokens_of}, declared.tokens.Tokens.{Tokens}}
use Rattle.calc_parser.specs.{Reader.{steps_in}, Steps.{AreStepsOf}, declared.parser.Parser.TheInside.{Inside}}

abbrev pub kept_tokens : Inside → Tokens
kept_tokens p = p.tokens

-- its steps are those of its tokens
abbrev pub KeepsSteps : Inside → Type 0
KeepsSteps p = AreStepsOf (steps_in p.reader.value.postfix) (bare (tokens_of (kept_tokens p)))
