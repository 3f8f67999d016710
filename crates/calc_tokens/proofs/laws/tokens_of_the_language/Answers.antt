use Rattle.calc_tokens.proofs.Language.{only_tokens, all_tokens}
use Rattle.calc_tokens.proofs.laws.tokens_of_the_language.Goals as goal

pub returns : goal.returns
returns c = record { only = only_tokens; all = all_tokens }
