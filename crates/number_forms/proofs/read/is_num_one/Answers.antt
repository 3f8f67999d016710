use Rattle.number_forms.proofs.Shared.{sym, ap, ◌∙◌, is_num_one}
use Rattle.number_forms.proofs.read.is_num_one.Goals as goal

pub returns-in-Num : goal.returns-in-Num
returns-in-Num c = c.is_one.ensures ∙ ap is_num_one (sym c.rational.ensures.plain)
