use Rattle.linear_solve.proofs.{Shared.{◌∙◌, sym, not, is_zero_fraction, entry, entries_of}, RowLists.{position-map}}
use Rattle.linear_solve.proofs.elimination.first_with.Goals as goal

pub returns : goal.returns
returns c = c.place_with.ensures ∙ sym (position-map (λ r. not (is_zero_fraction (entry c.args.at r))) entries_of c.args.rows.now)
