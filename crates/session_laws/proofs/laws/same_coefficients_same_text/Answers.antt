use Rattle.session_laws.proofs.{Shared.{◌∙◌, sym}, ExpandedLines.{one_expansion_text, told_of}}
use Rattle.session_laws.proofs.laws.same_coefficients_same_text.Goals as goal

pub returns : goal.returns
returns c = λ room bits a b before after first last line other told also t u asks asks_too same h k.
    told_of room bits a before after line asks told h ∙ one_expansion_text t u same ∙ sym (told_of room bits b first last other asks_too also k)
