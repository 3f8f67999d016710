use Rattle.name_table.proofs.{Shared.{holders_in, entries}, Holders.holders-told, Later.values-counted}
use Rattle.name_table.proofs.laws.values_stay.Goals as goal

pub returns : goal.returns
returns c = λ t f. values-counted (holders_in t) (entries t) f (holders-told (entries t))
