use Rattle.std.proofs.Common.{◌≡◌, ◌∙◌, ◌∷◌, [], length, encode_utf8_all, refl, sym, ap, subst, arith, length-append}
use Rattle.calc_session.proofs.Shared.{Appends-nil, err_from_is_err_and, Content, spare_of, Draft, Measures, drawing, cut, height, picture, tree_at, forest, row_text}
use Rattle.calc_session.proofs.{DrawingLemmas.{row_fits, row_written, rows_cut, rows_more}, drawing.write_rows.Goals.{After-push}}
use Rattle.calc_edges.proofs.Stops.{stops_later}
use Rattle.calc_session.proofs.drawing.write_rows.Goals as goal

pub loop-row-init : goal.loop-row-init
loop-row-init g c = record { capacity = refl; measured = c.rows-row-end.ensures.measured; served = c.rows-row-end.ensures.served; calm = refl; taken = Appends-nil _ }

pub write_row-requires-clause-room : goal.write_row-requires-clause-room
write_row-requires-clause-room g c = omega (arith, c.requires.room, c.loop-row.invariant.capacity, ap spare_of c.clear.ensures, ap (λ (x : Content). x.capacity) c.clear.ensures, ap (λ (x : Content). length x.bytes) c.clear.ensures)

pub push-requires : goal.push-requires
push-requires g c =
    omega (
      arith,
      c.requires.room,
      c.loop-row.invariant.capacity,
      ap (λ (x : Content). x.capacity) c.clear.ensures,
      ap (λ (x : Content). x.capacity) c.write_row.ensures.written,
      ap (λ (x : Content). length x.bytes) c.write_row.ensures.written,
      ap (λ (x : Content). length x.bytes) c.clear.ensures,
      length-append c.clear.new.self.bytes (encode_utf8_all (cut ((picture (drawing (tree_at c.args.layout (forest c.args.pool.now)))).line c.loop-row.row))),
      row_fits c.args.pool.now c.args.layout c.loop-row.row c.requires.stands c.requires.layout,
    )

-- the row is in the text
written : (g : _) (c : After-push g) → c.push.new.self.bytes ≡ row_text (picture (drawing (tree_at c.args.layout (forest c.args.pool.now)))) c.loop-row.row
written g c =
    row_written c.loop-row.text c.clear.new.self c.write_row.new.text c.push.new.self (encode_utf8_all (cut ((picture (drawing (tree_at c.args.layout (forest c.args.pool.now)))).line c.loop-row.row))) (10 ∷ []) c.clear.ensures c.write_row.ensures.written c.push.ensures

pub loop-row-preserved : goal.loop-row-preserved
loop-row-preserved g c = record {
  capacity = ap (λ (x : Content). x.capacity) c.push.ensures ∙ ap (λ (x : Content). x.capacity) c.write_row.ensures.written ∙ ap (λ (x : Content). x.capacity) c.clear.ensures ∙ c.loop-row.invariant.capacity;
  measured = subst (λ d. Measures d c.args.layout (forest c.args.pool.now)) (sym c.write_row.ensures.kept) c.loop-row.invariant.measured;
  served = ap (λ (d : Draft). d.pool_size) c.write_row.ensures.kept ∙ c.loop-row.invariant.served;
  calm = c.in_ok-write_all.ensures.cause.calm ∙ c.loop-row.invariant.calm;
  taken = rows_more (picture (drawing (tree_at c.args.layout (forest c.args.pool.now)))) c.loop-row.row _ _ _ _ c.loop-row.invariant.taken (c.bytes.ensures ∙ written g (goal.at.loop-row-preserved g c).After-push) c.in_ok-write_all.ensures.appended;
}

pub returns-in_err-write_all-clause-part : goal.returns-in_err-write_all-clause-part
returns-in_err-write_all-clause-part g c =
    let b = picture (drawing (tree_at c.args.layout (forest c.args.pool.now))) in
    let p = err_from_is_err_and c.from_residual.result c.from_residual.ensures.1 in
    rw (p.1) (rows_cut b c.loop-row.row (height b) _ _ _ _ (omega (arith, c.rows-row-end.ensures.rows)) c.loop-row.invariant.taken (c.bytes.ensures ∙ written g (goal.at.returns-in_err-write_all-clause-part g c).After-push) c.in_err-write_all.ensures.part)

pub returns-in_err-write_all-clause-stops : goal.returns-in_err-write_all-clause-stops
returns-in_err-write_all-clause-stops g c =
    let p = err_from_is_err_and c.from_residual.result c.from_residual.ensures.1 in
    rw (p.1) (stops_later _ _ _ _ _ c.loop-row.invariant.calm c.in_err-write_all.ensures.stops)
