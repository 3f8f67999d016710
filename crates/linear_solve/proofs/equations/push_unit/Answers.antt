use Rattle.std.proofs.Common.{◌≡◌, ◌<◌, ◌++◌, ◌∷◌, [], length, take, sym, ap, ◌∙◌, append_assoc}
use Rattle.linear_solve.proofs.{Shared.{take_all, take_more, zero_fraction, value_of, unit, entry, entries_of}, RowLists.{unit_entry}, Worths.{length-unit}}
use Rattle.linear_solve.proofs.Places.{below_mapped, past_mapped}
use Rattle.linear_solve.proofs.equations.push_unit.Goals as goal

pub loop-at-preserved : goal.loop-at-preserved
loop-at-preserved c =
    let l : c.loop-at.at < length (unit c.args.equations c.args.own) = below_mapped (length-unit c.args.equations c.args.own) c.loop-at-test.true in
    let value : value_of c.one_where.result ≡ entry c.loop-at.at (unit c.args.equations c.args.own) = c.one_where.ensures ∙ sym
    (unit_entry c.args.equations c.args.own c.loop-at.at c.loop-at-test.true) in
    c.push.ensures ∙ (λ i. c.loop-at.invariant i ++ value i ∷ []) ∙ append_assoc (entries_of c.args.row.now) (take c.loop-at.at (unit c.args.equations c.args.own)) _
    ∙ ap (λ xs. entries_of c.args.row.now ++ xs) (sym (take_more (unit c.args.equations c.args.own) c.loop-at.at zero_fraction l))

pub returns : goal.returns
returns c = c.loop-at.invariant ∙ ap (λ xs. entries_of c.args.row.now ++ xs)
    (take_all c.loop-at.at (unit c.args.equations c.args.own) (past_mapped (length-unit c.args.equations c.args.own) c.loop-at-test.false))
