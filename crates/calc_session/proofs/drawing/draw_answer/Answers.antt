use Rattle.calc_session.proofs.Shared.{◌∙◌, refl, ap, sym, subst, arith, IsLayout, drawing, given_layout, given_room, bytes_in, tree_at, forest, CountsRefusal, lack_in, rows_text, told_at}
use Rattle.calc_session.proofs.{DrawingLemmas.{drawn_all, drawn_in_part, given_told, lacks_where, told_where}, PoolLemmas.{old_below, rolled_back}}
use Rattle.calc_session.proofs.drawing.draw_answer.Goals as goal

pub write_rows-requires : goal.write_rows-requires
write_rows-requires g c = record {
  stands = c.layout_of.ensures.stands;
  layout = subst (λ i. IsLayout i (forest c.layout_of.new.pool)) (sym c.id.ensures) (given_layout c.layout_of.ensures.stands c.in-Ok.ensures.ok);
  room =
      omega (arith, given_room c.layout_of.ensures.stands c.in-Ok.ensures.ok, ap (λ i. bytes_in (tree_at i (forest c.layout_of.new.pool))) c.id.ensures, c.requires.room, c.in-Ok.ensures.kept.size);
  served = omega (arith, c.in-Ok.ensures.kept.size, c.layout_of.ensures.served, c.requires.served);
}

pub roll_back-requires : goal.roll_back-requires
roll_back-requires g c = record {
  stands = c.layout_of.ensures.stands;
  below = (forest c.args.pool.now, old_below (c.open_mark-mark.ensures.trees c.requires.stands) c.layout_of.ensures.front);
}

pub roll_back-requires-in-Err-write_rows : goal.roll_back-requires-in-Err-write_rows
roll_back-requires-in-Err-write_rows g c = record {
  stands = c.layout_of.ensures.stands;
  below = (forest c.args.pool.now, old_below (c.open_mark-mark.ensures.trees c.requires.stands) c.layout_of.ensures.front);
}

pub roll_back-requires-in-Err : goal.roll_back-requires-in-Err
roll_back-requires-in-Err g c = record {
  stands = c.layout_of.ensures.stands;
  below = (forest c.args.pool.now, old_below (c.open_mark-mark.ensures.trees c.requires.stands) c.layout_of.ensures.front);
}

pub returns-in-Ok-write_rows-clause-drawn : goal.returns-in-Ok-write_rows-clause-drawn
returns-in-Ok-write_rows-clause-drawn g c =
    drawn_all (told_at rows_text c.args.answer c.args.pool.now) (rows_text (drawing (tree_at c.id.result (forest c.layout_of.new.pool)))) _ _
    (given_told rows_text c.args.answer c.args.pool.now c.layout_of.new.pool c.in-Ok.layout c.id.result _ c.layout_of.ensures.stands c.in-Ok.ensures.ok c.id.ensures c.in-Ok.ensures.room) c.in-Ok-write_rows.ensures.appended

pub returns-in-Err-write_rows-clause-fails : goal.returns-in-Err-write_rows-clause-fails
returns-in-Err-write_rows-clause-fails g c =
    drawn_in_part (told_at rows_text c.args.answer c.args.pool.now) (rows_text (drawing (tree_at c.id.result (forest c.layout_of.new.pool)))) _ _
    (given_told rows_text c.args.answer c.args.pool.now c.layout_of.new.pool c.in-Ok.layout c.id.result _ c.layout_of.ensures.stands c.in-Ok.ensures.ok c.id.ensures c.in-Ok.ensures.room) c.in-Err-write_rows.ensures.part

pub returns-in-Ok-write_rows-clause-undone : goal.returns-in-Ok-write_rows-clause-undone
returns-in-Ok-write_rows-clause-undone g c = rolled_back (lack_in (told_at rows_text c.args.answer c.args.pool.now)) c.args.pool.now c.layout_of.new.pool c.roll_back.new.pool c.requires.stands c.roll_back.ensures.stands (subst (λ r. CountsRefusal (lack_in r) c.args.pool.now c.layout_of.new.pool) (sym (told_where rows_text c.args.answer c.args.pool.now _ c.in-Ok.ensures.room)) c.in-Ok.ensures.kept) c.roll_back.ensures.kept
    (c.roll_back.ensures.forest (forest c.args.pool.now) (old_below (c.open_mark-mark.ensures.trees c.requires.stands) c.layout_of.ensures.front))

pub returns-in-Err-write_rows-clause-undone : goal.returns-in-Err-write_rows-clause-undone
returns-in-Err-write_rows-clause-undone g c = rolled_back (lack_in (told_at rows_text c.args.answer c.args.pool.now)) c.args.pool.now c.layout_of.new.pool c.roll_back-in-Err-write_rows.new.pool c.requires.stands c.roll_back-in-Err-write_rows.ensures.stands (subst (λ r. CountsRefusal (lack_in r) c.args.pool.now c.layout_of.new.pool) (sym (told_where rows_text c.args.answer c.args.pool.now _ c.in-Ok.ensures.room)) c.in-Ok.ensures.kept) c.roll_back-in-Err-write_rows.ensures.kept
    (c.roll_back-in-Err-write_rows.ensures.forest (forest c.args.pool.now) (old_below (c.open_mark-mark.ensures.trees c.requires.stands) c.layout_of.ensures.front))

pub returns-in-Err-clause-undone : goal.returns-in-Err-clause-undone
returns-in-Err-clause-undone g c = rolled_back (lack_in (told_at rows_text c.args.answer c.args.pool.now)) c.args.pool.now c.layout_of.new.pool c.roll_back-in-Err.new.pool c.requires.stands c.roll_back-in-Err.ensures.stands (subst (λ r. CountsRefusal (lack_in r) c.args.pool.now c.layout_of.new.pool) (sym (lacks_where rows_text c.args.answer c.args.pool.now c.in-Err.full c.in-Err.ensures.full)) c.in-Err.ensures.refuses) c.roll_back-in-Err.ensures.kept
    (c.roll_back-in-Err.ensures.forest (forest c.args.pool.now) (old_below (c.open_mark-mark.ensures.trees c.requires.stands) c.layout_of.ensures.front))

pub layout_of-requires : goal.layout_of-requires
layout_of-requires g c = record {
  stands = c.requires.stands;
  expression = c.requires.expression;
  served = c.requires.served;
}

pub returns-in-Ok-write_rows-clause-fails : goal.returns-in-Ok-write_rows-clause-fails
returns-in-Ok-write_rows-clause-fails g c = tt

pub returns-in-Ok-write_rows-clause-stops : goal.returns-in-Ok-write_rows-clause-stops
returns-in-Ok-write_rows-clause-stops g c = tt

pub returns-in-Ok-write_rows-clause-capacity : goal.returns-in-Ok-write_rows-clause-capacity
returns-in-Ok-write_rows-clause-capacity g c = c.write_rows.ensures.capacity

pub returns-in-Ok-write_rows-clause-served : goal.returns-in-Ok-write_rows-clause-served
returns-in-Ok-write_rows-clause-served g c = c.write_rows.ensures.served ∙ c.layout_of.ensures.served

pub returns-in-Ok-write_rows-clause-stands : goal.returns-in-Ok-write_rows-clause-stands
returns-in-Ok-write_rows-clause-stands g c = c.roll_back.ensures.stands

pub returns-in-Err-write_rows-clause-drawn : goal.returns-in-Err-write_rows-clause-drawn
returns-in-Err-write_rows-clause-drawn g c = tt

pub returns-in-Err-write_rows-clause-calm : goal.returns-in-Err-write_rows-clause-calm
returns-in-Err-write_rows-clause-calm g c = tt

pub returns-in-Err-write_rows-clause-stops : goal.returns-in-Err-write_rows-clause-stops
returns-in-Err-write_rows-clause-stops g c = c.in-Err-write_rows.ensures.stops

pub returns-in-Err-write_rows-clause-capacity : goal.returns-in-Err-write_rows-clause-capacity
returns-in-Err-write_rows-clause-capacity g c = c.write_rows.ensures.capacity

pub returns-in-Err-write_rows-clause-served : goal.returns-in-Err-write_rows-clause-served
returns-in-Err-write_rows-clause-served g c = c.write_rows.ensures.served ∙ c.layout_of.ensures.served

pub returns-in-Err-write_rows-clause-stands : goal.returns-in-Err-write_rows-clause-stands
returns-in-Err-write_rows-clause-stands g c = c.roll_back-in-Err-write_rows.ensures.stands

pub returns-in-Err-clause-drawn : goal.returns-in-Err-clause-drawn
returns-in-Err-clause-drawn g c = tt

pub returns-in-Err-clause-calm : goal.returns-in-Err-clause-calm
returns-in-Err-clause-calm g c = tt

pub returns-in-Err-clause-fails : goal.returns-in-Err-clause-fails
returns-in-Err-clause-fails g c = lacks_where rows_text c.args.answer c.args.pool.now c.in-Err.full c.in-Err.ensures.full

pub returns-in-Err-clause-stops : goal.returns-in-Err-clause-stops
returns-in-Err-clause-stops g c = refl

pub returns-in-Err-clause-capacity : goal.returns-in-Err-clause-capacity
returns-in-Err-clause-capacity g c = refl

pub returns-in-Err-clause-served : goal.returns-in-Err-clause-served
returns-in-Err-clause-served g c = c.layout_of.ensures.served

pub returns-in-Err-clause-stands : goal.returns-in-Err-clause-stands
returns-in-Err-clause-stands g c = c.roll_back-in-Err.ensures.stands
