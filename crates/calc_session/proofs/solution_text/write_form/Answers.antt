use Rattle.std.proofs.Common.{None, Some, map, refl, ap, arith}
use Rattle.calc_session.proofs.{Shared.{Content, forest, name_of, value_of, entries_of, free_of, keeps_after, given_handed, refuses_after}, PoolLemmas.{old_below, rolled_back}, EvaluationLemmas.{front_over}}
use Rattle.calc_session.proofs.{FormFaces.{sizes_of_summands}, SolutionLemmas.{face_room, lacks_room, placed_defined, placed_reduced, shown_expression, shown_room, shown_short, shown_text}}
use Rattle.calc_session.proofs.SolutionLemmas.{shown_writable}
use Rattle.calc_session.proofs.solution_text.write_form.Goals as goal

pub returns-in-Err : goal.returns-in-Err
returns-in-Err c = record {
  told = tt;
  short = tt;
  lacks =
      let xs = map name_of c.args.names.now in
      (c.in-Err.ensures.caused.lacking, lacks_room (free_of c.args.work.now.pool) (λ room. cc (c.in-Err.ensures.enough (omega (arith, room, sizes_of_summands xs (value_of c.args.constant) (entries_of c.args.coefs.now) c.requires.small)))));
  undone = rolled_back (Some c.in-Err.full) c.args.work.now.pool c.place_form.new.pool c.roll_back.new.pool c.requires.ready.stands c.roll_back.ensures.stands c.in-Err.ensures.refused c.roll_back.ensures.kept
      (c.roll_back.ensures.forest (forest c.args.work.now.pool) (old_below (c.open_mark-mark.ensures.trees c.requires.ready.stands) c.place_form.ensures.front));
  capacity = refl;
  ready = record { stands = c.roll_back.ensures.stands; lists = omega (arith, c.requires.ready.lists, c.in-Err.ensures.refused.size, c.roll_back.ensures.kept.size) };
}

pub face_of-requires : goal.face_of-requires
face_of-requires c = record {
  stands = c.in-Ok.ensures.ok.stands;
  handed = given_handed c.in-Ok.ensures.ok.gives;
  reduced = placed_reduced (map name_of c.args.names.now) (value_of c.args.constant) (entries_of c.args.coefs.now) c.in-Ok.ensures.ok c.requires.rises;
  defined = placed_defined (map name_of c.args.names.now) (value_of c.args.constant) (entries_of c.args.coefs.now) c.in-Ok.ensures.ok;
  lists = omega (arith, c.requires.ready.lists, c.in-Ok.ensures.ok.kept.size);
}

pub returns-in-Err-face_of : goal.returns-in-Err-face_of
returns-in-Err-face_of c = record {
  told = tt;
  short = tt;
  lacks =
      (c.in-Err-face_of.ensures.caused.lacking, lacks_room (free_of c.args.work.now.pool) (λ room. cc (c.in-Err-face_of.ensures.enough (face_room (map name_of c.args.names.now) (value_of c.args.constant) (entries_of c.args.coefs.now) c.in-Ok.ensures.ok c.requires.ready.stands c.requires.small room))));
  undone = rolled_back (Some c.in-Err-face_of.full) c.args.work.now.pool c.face_of.new.pool c.roll_back-in-Err-face_of.new.pool c.requires.ready.stands c.roll_back-in-Err-face_of.ensures.stands (refuses_after _ _ _ _ c.in-Ok.ensures.ok.kept c.in-Err-face_of.ensures.refused) c.roll_back-in-Err-face_of.ensures.kept
      (c.roll_back-in-Err-face_of.ensures.forest (forest c.args.work.now.pool) (old_below (c.open_mark-mark.ensures.trees c.requires.ready.stands) (front_over c.in-Ok.ensures.ok.gives c.face_of.ensures.front)));
  capacity = refl;
  ready = record { stands = c.roll_back-in-Err-face_of.ensures.stands; lists = omega (arith, c.requires.ready.lists, c.in-Ok.ensures.ok.kept.size, c.in-Err-face_of.ensures.refused.size, c.face_of.ensures.lists, c.roll_back-in-Err-face_of.ensures.kept.size) };
}

pub write_text-requires : goal.write_text-requires
write_text-requires c = record {
  stands = c.face_of.ensures.stands;
  expression = shown_expression (map name_of c.args.names.now) (value_of c.args.constant) (entries_of c.args.coefs.now) c.id.result c.in-Ok.ensures.ok c.in-Ok-face_of.ensures.ok c.in-Ok-face_of.ensures.stands c.id.ensures;
  writable = shown_writable (map name_of c.args.names.now) (value_of c.args.constant) (entries_of c.args.coefs.now) c.id.result c.in-Ok.ensures.ok c.in-Ok-face_of.ensures.ok c.in-Ok-face_of.ensures.stands c.id.ensures c.requires.rises;
  room =
      let small = shown_room (map name_of c.args.names.now) (value_of c.args.constant) (entries_of c.args.coefs.now) c.id.result c.in-Ok.ensures.ok c.in-Ok-face_of.ensures.ok c.in-Ok-face_of.ensures.stands c.id.ensures c.requires.small in
      omega (arith, small, c.requires.room);
}

pub returns-in-Ok-face_of : goal.returns-in-Ok-face_of
returns-in-Ok-face_of c = record {
  told = shown_text (map name_of c.args.names.now) (value_of c.args.constant) (entries_of c.args.coefs.now) c.id.result c.in-Ok.ensures.ok c.in-Ok-face_of.ensures.ok c.in-Ok-face_of.ensures.stands c.id.ensures c.args.text.now c.write_text.new.text c.write_text.ensures;
  short = shown_short (map name_of c.args.names.now) (value_of c.args.constant) (entries_of c.args.coefs.now) c.id.result c.in-Ok.ensures.ok c.in-Ok-face_of.ensures.ok c.in-Ok-face_of.ensures.stands c.id.ensures c.args.text.now c.write_text.new.text c.requires.rises c.requires.small c.write_text.ensures;
  lacks = tt;
  undone = rolled_back None c.args.work.now.pool c.face_of.new.pool c.roll_back-in-Ok-face_of.new.pool c.requires.ready.stands c.roll_back-in-Ok-face_of.ensures.stands (keeps_after _ _ _ c.in-Ok.ensures.ok.kept c.in-Ok-face_of.ensures.kept) c.roll_back-in-Ok-face_of.ensures.kept
      (c.roll_back-in-Ok-face_of.ensures.forest (forest c.args.work.now.pool) (old_below (c.open_mark-mark.ensures.trees c.requires.ready.stands) (front_over c.in-Ok.ensures.ok.gives c.face_of.ensures.front)));
  capacity = ap (λ (x : Content). x.capacity) c.write_text.ensures;
  ready = record { stands = c.roll_back-in-Ok-face_of.ensures.stands; lists = omega (arith, c.requires.ready.lists, c.in-Ok.ensures.ok.kept.size, c.in-Ok-face_of.ensures.kept.size, c.face_of.ensures.lists, c.roll_back-in-Ok-face_of.ensures.kept.size) };
}

pub roll_back-requires : goal.roll_back-requires
roll_back-requires c = record {
  stands = c.place_form.ensures.stands;
  below = (forest c.args.work.now.pool, old_below (c.open_mark-mark.ensures.trees c.requires.ready.stands) c.place_form.ensures.front);
}

pub roll_back-requires-in-Ok-face_of : goal.roll_back-requires-in-Ok-face_of
roll_back-requires-in-Ok-face_of c = record {
  stands = c.face_of.ensures.stands;
  below = (forest c.args.work.now.pool, old_below (c.open_mark-mark.ensures.trees c.requires.ready.stands) (front_over c.in-Ok.ensures.ok.gives c.face_of.ensures.front));
}

pub roll_back-requires-in-Err-face_of : goal.roll_back-requires-in-Err-face_of
roll_back-requires-in-Err-face_of c = record {
  stands = c.face_of.ensures.stands;
  below = (forest c.args.work.now.pool, old_below (c.open_mark-mark.ensures.trees c.requires.ready.stands) (front_over c.in-Ok.ensures.ok.gives c.face_of.ensures.front));
}

pub place_form-requires : goal.place_form-requires
place_form-requires c = record {
  stands = c.requires.ready.stands;
  few = c.requires.few;
}
