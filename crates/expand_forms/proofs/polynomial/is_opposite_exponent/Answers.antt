use Rattle.expand_forms.proofs.{Shared.{◌∙◌, ap, sym, whole_literal, whole_value, value_of, Tree, neg, is_small}, Numbers.{opposite_whole}}
use Rattle.expand_forms.proofs.polynomial.is_opposite_exponent.Goals as goal

pub returns-in-Num : goal.returns-in-Num
returns-in-Num c =
    c.is_small.ensures ∙ ap (λ q. is_small (whole_value q)) c.neg.ensures ∙ ap is_small (opposite_whole (value_of c.rational.result))
    ∙ ap (λ (t : Tree). is_small (whole_literal (neg t))) (sym c.rational.ensures.plain)
