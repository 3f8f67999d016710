use Rattle.name_table.proofs.FilledNames.{filled_lacks}
use Rattle.name_table.proofs.laws.filled_trees_lack_names.Goals as goal

pub returns : goal.returns
returns c = filled_lacks
