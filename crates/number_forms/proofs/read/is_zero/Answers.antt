use Rattle.number_forms.proofs.Shared.{sym, ap, ◌∙◌, is_zero}
use Rattle.number_forms.proofs.read.is_zero.Goals as goal

pub returns-in-Num : goal.returns-in-Num
returns-in-Num c = c.is_zero.ensures ∙ ap is_zero (sym c.rational.ensures.plain)
