use Rattle.session_laws.proofs.{Shared.{ap, text}, MeaningLemmas.{shown_alike}}
use Rattle.session_laws.proofs.laws.one_value_has_one_text.Goals as goal

pub returns : goal.returns
returns c = λ a b line other t u p q easy easy' same small small'. ap text (shown_alike a b line other t u p q easy easy' same small small')
