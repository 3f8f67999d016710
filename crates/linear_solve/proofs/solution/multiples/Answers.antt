use Rattle.linear_solve.proofs.{Shared.{◌++◌, ◌∷◌, [], sym, ◌∙◌, zero-add, ◌==◌, map-range_with_len_more, negative, zero_fraction, entry, entries_of}, Entries.{longer}}
use Rattle.std.proofs.Common.{if◌then◌else◌}
use Rattle.linear_solve.proofs.solution.multiples.Goals as goal

pub loop-at-preserved : goal.loop-at-preserved
loop-at-preserved c = record {
  made = c.push.ensures ∙ (λ i. c.loop-at.invariant.made i ++ c.multiple.ensures i ∷ [])
      ∙ sym (map-range_with_len_more (λ j. if j == c.args.own then zero_fraction else negative (entry j (entries_of c.args.row.now))) 0 c.loop-at.at c.loop-at.at (zero-add c.loop-at.at));
  long = longer _ _ _ c.loop-at.at c.push.ensures c.loop-at.invariant.long;
}
