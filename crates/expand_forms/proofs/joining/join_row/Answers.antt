use Rattle.expand_forms.proofs.TermReadings.{beside}
use Rattle.expand_forms.proofs.joining.join_row.Goals as goal

pub children-requires-clause-live : goal.children-requires-clause-live
children-requires-clause-live g c = (beside c.requires.sum c.requires.second).expression.live
