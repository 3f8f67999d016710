use Rattle.linear_solve.proofs.{Shared.{map, sym, ap, ◌∙◌, length, arith, entry, get_or_past, length-map, zero_fraction, value_of, entries_of, zero_value, Entry}, RowLists.{read_row}}
use Rattle.linear_solve.proofs.row.Row.get.Goals as goal

pub returns-else-at-entries : goal.returns-else-at-entries
returns-else-at-entries g c =
    zero_value c.whole.result c.whole.ensures
    ∙ sym (get_or_past (entries_of c.args.self.now) c.args.at zero_fraction (omega (arith, ap length c.as_slice-entries.ensures.value, length-map c.args.self.now.entries.items (λ e. value_of e.value), c.if-at-entries.false)))

pub returns-then-at-entries : goal.returns-then-at-entries
returns-then-at-entries g c =
    ap (λ (e : Entry). value_of e.value) (sym c.index-entries-at.is)
    ∙ sym (read_row (λ (e : Entry). value_of e.value) c.as_slice-entries.result.now c.args.at c.index-entries-at.result zero_fraction c.if-at-entries.true c.index-entries-at.is)
    ∙ ap (λ xs. entry c.args.at (map (λ (e : Entry). value_of e.value) xs)) c.as_slice-entries.ensures.value
