use Rattle.dual_diff.proofs.{Shared.{◌∙◌, ap, sym, whole_literal, whole_value, value_of, Tree, neg}, Exponents.opposite_whole}
use Rattle.dual_diff.proofs.derivable.opposite_number.Goals as goal

pub returns-in-Num-clause-value : goal.returns-in-Num-clause-value
returns-in-Num-clause-value c =
    c.whole_number.ensures.value ∙ ap whole_value c.neg.ensures ∙ opposite_whole (value_of c.rational.result) ∙ ap (λ (t : Tree). whole_literal (neg t)) (sym c.rational.ensures.plain)
