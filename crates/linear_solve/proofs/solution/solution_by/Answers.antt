use Rattle.linear_solve.proofs.{Shared.{◌<◌, [], sym, ap, ◌∙◌, map, length, arith, length-map, zero_test, is_zero_fraction, entry, entries_of}, RowLists.{read_row}, Steps.{first_has}}
use Rattle.linear_solve.proofs.solution.solution_by.Goals as goal

pub multipliers-requires-clause-constant : goal.multipliers-requires-clause-constant
multipliers-requires-clause-constant c =
    let h = first_has c.args.names c.in-Some.at (map entries_of c.as_slice-left.result.now) (sym c.in-Some.ensures) in
    let l : c.in-Some.at < length c.as_slice-left.result.now = omega (arith, h.within, length-map c.as_slice-left.result.now entries_of) in
    let row = read_row entries_of c.as_slice-left.result.now c.in-Some.at c.index-left-at.result [] l c.index-left-at.is in
    ap is_zero_fraction (ap (entry c.args.names) (sym row)) ∙ zero_test _ h.has
