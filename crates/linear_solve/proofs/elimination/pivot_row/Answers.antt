use Rattle.std.proofs.Common.{◌<◌, [], sym, ap, ◌∙◌, map, length, arith}
use Rattle.linear_solve.proofs.{Shared.{length-map, zero_test, is_zero_fraction, entry, entries_of}, Entries.{nonzero_numerator}, RowLists.{read_row}, Steps.{first_has}}
use Rattle.linear_solve.proofs.elimination.pivot_row.Goals as goal

pub invert-requires : goal.invert-requires
invert-requires c =
    let h = first_has c.args.name c.args.at (map entries_of c.args.rows.now) c.requires.first in
    let l : c.args.at < length c.args.rows.now = omega (arith, h.within, length-map c.args.rows.now entries_of) in
    let row = read_row entries_of c.args.rows.now c.args.at c.index-rows-at.result [] l c.index-rows-at.is in
    nonzero_numerator c.get.result (ap is_zero_fraction (c.get.ensures ∙ ap (entry c.args.name) (sym row)) ∙ zero_test _ h.has)
