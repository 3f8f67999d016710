use Rattle.std.proofs.Common.{◌∙◌, ◌++◌, List, ℕ, Ok, length, refl, sym, ap, subst, arith}
use Rattle.calc_session.proofs.Shared.{Content, IsLayout, drawing, told_by, given_layout, given_room, bytes_in, tree_at, forest, CountsRefusal, lack_in, told_at}
use Rattle.calc_session.proofs.{DrawingLemmas.{given_told, lacks_where, told_where}, PoolLemmas.{old_below, rolled_back}}
use Rattle.calc_session.proofs.drawing.write_layout.Goals as goal

pub write_in-requires : goal.write_in-requires
write_in-requires c = record {
  stands = c.layout_of.ensures.stands;
  layout = subst (λ i. IsLayout i (forest c.layout_of.new.pool)) (sym c.id.ensures) (given_layout c.layout_of.ensures.stands c.in-Ok.ensures.ok);
  room =
      omega (arith, given_room c.layout_of.ensures.stands c.in-Ok.ensures.ok, ap (λ i. bytes_in (tree_at i (forest c.layout_of.new.pool))) c.id.ensures, c.requires.room, c.in-Ok.ensures.kept.size, ap (λ (b : List ℕ). length b) c.requires.empty);
  served = omega (arith, c.requires.served, c.layout_of.ensures.served, c.in-Ok.ensures.kept.size);
}

pub roll_back-requires : goal.roll_back-requires
roll_back-requires c = record {
  stands = c.layout_of.ensures.stands;
  below = (forest c.args.pool.now, old_below (c.open_mark-mark.ensures.trees c.requires.stands) c.layout_of.ensures.front);
}

pub roll_back-requires-in-Err : goal.roll_back-requires-in-Err
roll_back-requires-in-Err c = record {
  stands = c.layout_of.ensures.stands;
  below = (forest c.args.pool.now, old_below (c.open_mark-mark.ensures.trees c.requires.stands) c.layout_of.ensures.front);
}

pub returns-in-Ok : goal.returns-in-Ok
returns-in-Ok c = record {
  told =
      given_told (told_by c.args.notation) c.args.answer c.args.pool.now c.layout_of.new.pool c.in-Ok.layout c.id.result _ c.layout_of.ensures.stands c.in-Ok.ensures.ok c.id.ensures c.in-Ok.ensures.room
      ∙ ap (λ (b : List ℕ). Ok b) (sym (ap (λ (x : Content). x.bytes) c.write_in.ensures.written ∙ ap (λ (b : List ℕ). b ++ told_by c.args.notation (drawing (tree_at c.id.result (forest c.layout_of.new.pool)))) c.requires.empty));
  full = tt;
  untold = tt;
  undone = rolled_back (lack_in (told_at (told_by c.args.notation) c.args.answer c.args.pool.now)) c.args.pool.now c.layout_of.new.pool c.roll_back.new.pool c.requires.stands c.roll_back.ensures.stands (subst (λ r. CountsRefusal (lack_in r) c.args.pool.now c.layout_of.new.pool) (sym (told_where (told_by c.args.notation) c.args.answer c.args.pool.now _ c.in-Ok.ensures.room)) c.in-Ok.ensures.kept) c.roll_back.ensures.kept
      (c.roll_back.ensures.forest (forest c.args.pool.now) (old_below (c.open_mark-mark.ensures.trees c.requires.stands) c.layout_of.ensures.front));
  capacity = ap (λ (x : Content). x.capacity) c.write_in.ensures.written;
  served = c.write_in.ensures.served ∙ c.layout_of.ensures.served;
  stands = c.roll_back.ensures.stands;
}

pub returns-in-Err : goal.returns-in-Err
returns-in-Err c = record {
  told = tt;
  full = lacks_where (told_by c.args.notation) c.args.answer c.args.pool.now c.in-Err.full c.in-Err.ensures.full;
  untold = c.requires.empty;
  undone = rolled_back (lack_in (told_at (told_by c.args.notation) c.args.answer c.args.pool.now)) c.args.pool.now c.layout_of.new.pool c.roll_back-in-Err.new.pool c.requires.stands c.roll_back-in-Err.ensures.stands (subst (λ r. CountsRefusal (lack_in r) c.args.pool.now c.layout_of.new.pool) (sym (lacks_where (told_by c.args.notation) c.args.answer c.args.pool.now c.in-Err.full c.in-Err.ensures.full)) c.in-Err.ensures.refuses) c.roll_back-in-Err.ensures.kept
      (c.roll_back-in-Err.ensures.forest (forest c.args.pool.now) (old_below (c.open_mark-mark.ensures.trees c.requires.stands) c.layout_of.ensures.front));
  capacity = refl;
  served = c.layout_of.ensures.served;
  stands = c.roll_back-in-Err.ensures.stands;
}

pub layout_of-requires : goal.layout_of-requires
layout_of-requires c = record {
  stands = c.requires.stands;
  expression = c.requires.expression;
  served = c.requires.served;
}
