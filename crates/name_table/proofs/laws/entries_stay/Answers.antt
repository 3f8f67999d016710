use Rattle.name_table.proofs.Entries.{entries-left}
use Rattle.name_table.proofs.laws.entries_stay.Goals as goal

pub returns : goal.returns
returns c = entries-left
