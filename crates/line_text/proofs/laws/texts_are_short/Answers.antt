use Rattle.line_text.proofs.{Shared.arith, Lengths.short}
use Rattle.line_text.proofs.laws.texts_are_short.Goals as goal

pub returns : goal.returns
returns c = λ t w f. omega (arith, short t w f)
