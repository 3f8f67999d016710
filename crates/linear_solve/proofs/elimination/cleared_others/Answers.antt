use Rattle.std.proofs.Common.{◌≡◌, ◌<◌, ◌+◌, ◌-◌, [], ◌∷◌, ◌++◌, if◌then◌else◌, sym, ap, subst, ◌∙◌, map, length, take, Ok, arith}
use Rattle.std.specs.Prelude.{◌==◌}
use Rattle.linear_solve.proofs.{Shared.{eq-eqb, ne_eqb, err_from_is_err_and, length-map, cleared, others, each, entries_of, misfit_of}, Calculations.{each_more, each_stops}}
use Rattle.linear_solve.proofs.{RowLists.{mapped_push, other_row, others_long}, elimination.cleared_others.Goals.{then-place-at, else-place-at}}
use Rattle.linear_solve.proofs.elimination.cleared_others.Goals as goal

pub returns-in_err-row-clause-overflow : goal.returns-in_err-row-clause-overflow
returns-in_err-row-clause-overflow c =
    let p = err_from_is_err_and c.from_residual.result c.from_residual.ensures.1 in
    let other : c.if-place-at.other ≡ (if c.loop-place.place == c.args.at then 0 else c.loop-place.place) = elim c.if-place-at.branch [
      | then-place-at w ↦ w.other-is ∙ sym (ap (λ b. if b then 0 else c.loop-place.place) (eq-eqb c.loop-place.place c.args.at w.if-place-at.true))
      | else-place-at w ↦ w.other-is ∙ sym (ap (λ b. if b then 0 else c.loop-place.place) (ne_eqb c.loop-place.place c.args.at w.if-place-at.false))
    ] in
    let read = other_row c.args.at c.loop-place.place c.if-place-at.other c.args.rows.now c.index-rows-other.result [] (omega arith) (omega arith) c.requires.inside other c.index-rows-other.is in
    let l : c.loop-place.place - 1 < length (others c.args.at (map entries_of c.args.rows.now)) = omega
    (arith, others_long c.args.at (map entries_of c.args.rows.now), length-map c.args.rows.now entries_of) in
    rw (p.1, p.2) (each_stops (cleared c.args.name (entries_of c.args.pivot.now)) (others c.args.at (map entries_of c.args.rows.now)) (c.loop-place.place - 1) [] (map entries_of c.loop-place.left.items) (misfit_of c.in_err-row.field-0.0)
    l c.loop-place.invariant.made (ap (cleared c.args.name (entries_of c.args.pivot.now)) read ∙ c.in_err-row.ensures.overflow))

pub loop-place-preserved : goal.loop-place-preserved
loop-place-preserved c =
    let other : c.if-place-at.other ≡ (if c.loop-place.place == c.args.at then 0 else c.loop-place.place) = elim c.if-place-at.branch [
      | then-place-at w ↦ w.other-is ∙ sym (ap (λ b. if b then 0 else c.loop-place.place) (eq-eqb c.loop-place.place c.args.at w.if-place-at.true))
      | else-place-at w ↦ w.other-is ∙ sym (ap (λ b. if b then 0 else c.loop-place.place) (ne_eqb c.loop-place.place c.args.at w.if-place-at.false))
    ] in
    let read = other_row c.args.at c.loop-place.place c.if-place-at.other c.args.rows.now c.index-rows-other.result [] (omega arith) (omega arith) c.requires.inside other c.index-rows-other.is in
    let l : c.loop-place.place - 1 < length (others c.args.at (map entries_of c.args.rows.now)) = omega
    (arith, others_long c.args.at (map entries_of c.args.rows.now), length-map c.args.rows.now entries_of) in
    let back : c.loop-place.place - 1 + 1 ≡ c.loop-place.place + 1 - 1 = omega arith in
    record {
      made = rw (mapped_push entries_of c.push.new.self.items c.loop-place.left.items c.in_ok-row.row c.push.ensures.items) (subst (λ n. each (cleared c.args.name (entries_of c.args.pivot.now)) (take n (others c.args.at (map entries_of c.args.rows.now))) ≡ Ok (map entries_of c.loop-place.left.items ++ entries_of c.in_ok-row.row ∷ [])) back
          (each_more (cleared c.args.name (entries_of c.args.pivot.now)) (others c.args.at (map entries_of c.args.rows.now)) (c.loop-place.place - 1) []
          (map entries_of c.loop-place.left.items) (entries_of c.in_ok-row.row)
          l c.loop-place.invariant.made (ap (cleared c.args.name (entries_of c.args.pivot.now)) read ∙ c.in_ok-row.ensures.ok)));
      long = omega (arith, c.push.ensures.len, c.loop-place.invariant.long);
    }
