use Rattle.number_forms.proofs.{Shared.{◌∙◌}, Recognized.{other_by_kind}}
use Rattle.number_forms.proofs.recognize.is_number.Goals as goal

pub returns-in_default : goal.returns-in_default
returns-in_default c =
    c.is_term.ensures ∙ other_by_kind _ (λ k. c.in_default.not-Num (c.kind.ensures.plain c.requires.expression ∙ k)) (λ k. c.in_default.not-Add (c.kind.ensures.plain c.requires.expression ∙ k))
