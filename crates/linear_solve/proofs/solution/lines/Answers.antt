use Rattle.std.proofs.Common.{◌<◌, ◌+◌, ◌++◌, ◌∷◌, [], None, length, map, sym, ap, ◌∙◌, arith}
use Rattle.linear_solve.proofs.{Shared.{length-map, take_all, take_more, form_of, forms_of, free, form_told, pivot_of}, RowLists.{form_at, forms_long, mapped_push, read_row}}
use Rattle.linear_solve.proofs.Places.{below_mapped}
use Rattle.linear_solve.proofs.solution.lines.Goals as goal

pub loop-at-preserved : goal.loop-at-preserved
loop-at-preserved c =
    let l : c.loop-at.at < length (map pivot_of c.args.pivots.now) = below_mapped (length-map c.args.pivots.now pivot_of) c.loop-at-test.true in
    let read = read_row pivot_of c.args.pivots.now c.loop-at.at c.index-pivots-at.result None c.loop-at-test.true c.index-pivots-at.is in
    let form = c.line_of.ensures ∙ ap (form_of c.args.names c.loop-at.at) (sym read) ∙ sym (form_at c.args.names c.loop-at.at (map pivot_of c.args.pivots.now) l) in
    record {
      made = mapped_push form_told c.push.new.self.items c.loop-at.lines.items c.line_of.result c.push.ensures.items ∙ (λ i. c.loop-at.invariant.made i ++ form i ∷ [])
          ∙ sym (take_more (forms_of c.args.names (map pivot_of c.args.pivots.now)) c.loop-at.at free (omega (arith, forms_long c.args.names (map pivot_of c.args.pivots.now), l)));
      long = c.push.ensures.len ∙ ap (λ n. n + 1) c.loop-at.invariant.long;
    }

pub returns : goal.returns
returns c = c.loop-at.invariant.made ∙ take_all c.loop-at.at (forms_of c.args.names (map pivot_of c.args.pivots.now))
    (omega (arith, forms_long c.args.names (map pivot_of c.args.pivots.now), length-map c.args.pivots.now pivot_of, c.loop-at-test.false))
