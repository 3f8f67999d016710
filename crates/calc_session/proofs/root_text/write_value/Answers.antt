use Rattle.std.proofs.Common.{None, Some, refl, ap, arith}
use Rattle.calc_session.proofs.{Shared.{Content, forest, free_of, keeps_after, given_handed, refuses_after}, PoolLemmas.{old_below, rolled_back}, EvaluationLemmas.{front_over}}
use Rattle.calc_session.proofs.{RootFaces.{root_defined, root_reduced, size_of_root}, RootLemmas.{face_room, lacks_room, placed_defined, placed_reduced, shown_expression, shown_room, shown_short, shown_text}}
use Rattle.calc_session.proofs.RootLemmas.{shown_writable}
use Rattle.calc_session.specs.RootTexts.{tree_in}
use Rattle.calc_session.proofs.root_text.write_value.Goals as goal

pub returns-in-Err : goal.returns-in-Err
returns-in-Err c = record {
  told = tt;
  short = tt;
  lacks = (c.in-Err.ensures.caused.lacking, lacks_room (free_of c.args.work.now.pool) (λ room. cc (c.in-Err.ensures.enough (omega (arith, room)))));
  undone = rolled_back (Some c.in-Err.full) c.args.work.now.pool c.place_root.new.pool c.roll_back.new.pool c.requires.ready.stands c.roll_back.ensures.stands c.in-Err.ensures.refused c.roll_back.ensures.kept
      (c.roll_back.ensures.forest (forest c.args.work.now.pool) (old_below (c.open_mark-mark.ensures.trees c.requires.ready.stands) c.place_root.ensures.front));
  capacity = refl;
  ready = record { stands = c.roll_back.ensures.stands; lists = omega (arith, c.requires.ready.lists, c.in-Err.ensures.refused.size, c.roll_back.ensures.kept.size) };
}

pub face_of-requires : goal.face_of-requires
face_of-requires c = record {
  stands = c.in-Ok.ensures.ok.stands;
  handed = given_handed c.in-Ok.ensures.ok.gives;
  reduced = placed_reduced (tree_in c.args.root) c.in-Ok.ensures.ok (root_reduced c.args.root c.requires.irrational);
  defined = placed_defined (tree_in c.args.root) c.in-Ok.ensures.ok (root_defined c.args.root);
  lists = omega (arith, c.requires.ready.lists, c.in-Ok.ensures.ok.kept.size);
}

pub returns-in-Err-face_of : goal.returns-in-Err-face_of
returns-in-Err-face_of c = record {
  told = tt;
  short = tt;
  lacks =
      (c.in-Err-face_of.ensures.caused.lacking, lacks_room (free_of c.args.work.now.pool) (λ room. cc (c.in-Err-face_of.ensures.enough (face_room (tree_in c.args.root) c.in-Ok.ensures.ok c.requires.ready.stands (size_of_root c.args.root) room))));
  undone = rolled_back (Some c.in-Err-face_of.full) c.args.work.now.pool c.face_of.new.pool c.roll_back-in-Err-face_of.new.pool c.requires.ready.stands c.roll_back-in-Err-face_of.ensures.stands (refuses_after _ _ _ _ c.in-Ok.ensures.ok.kept c.in-Err-face_of.ensures.refused) c.roll_back-in-Err-face_of.ensures.kept
      (c.roll_back-in-Err-face_of.ensures.forest (forest c.args.work.now.pool) (old_below (c.open_mark-mark.ensures.trees c.requires.ready.stands) (front_over c.in-Ok.ensures.ok.gives c.face_of.ensures.front)));
  capacity = refl;
  ready = record { stands = c.roll_back-in-Err-face_of.ensures.stands; lists = omega (arith, c.requires.ready.lists, c.in-Ok.ensures.ok.kept.size, c.in-Err-face_of.ensures.refused.size, c.face_of.ensures.lists, c.roll_back-in-Err-face_of.ensures.kept.size) };
}

pub write_text-requires : goal.write_text-requires
write_text-requires c = record {
  stands = c.face_of.ensures.stands;
  expression = shown_expression (tree_in c.args.root) c.id.result c.in-Ok.ensures.ok c.in-Ok-face_of.ensures.ok c.in-Ok-face_of.ensures.stands c.id.ensures;
  writable = shown_writable (tree_in c.args.root) c.id.result c.in-Ok.ensures.ok c.in-Ok-face_of.ensures.ok c.in-Ok-face_of.ensures.stands c.id.ensures (root_reduced c.args.root c.requires.irrational);
  room =
      let small = shown_room (tree_in c.args.root) c.id.result c.in-Ok.ensures.ok c.in-Ok-face_of.ensures.ok c.in-Ok-face_of.ensures.stands c.id.ensures in
      omega (arith, small, c.requires.room);
}

pub returns-in-Ok-face_of : goal.returns-in-Ok-face_of
returns-in-Ok-face_of c = record {
  told = shown_text (tree_in c.args.root) c.id.result c.in-Ok.ensures.ok c.in-Ok-face_of.ensures.ok c.in-Ok-face_of.ensures.stands c.id.ensures c.args.text.now c.write_text.new.text c.write_text.ensures;
  short = shown_short (tree_in c.args.root) c.id.result c.in-Ok.ensures.ok c.in-Ok-face_of.ensures.ok c.in-Ok-face_of.ensures.stands c.id.ensures c.args.text.now c.write_text.new.text (root_reduced c.args.root c.requires.irrational) c.write_text.ensures;
  lacks = tt;
  undone = rolled_back None c.args.work.now.pool c.face_of.new.pool c.roll_back-in-Ok-face_of.new.pool c.requires.ready.stands c.roll_back-in-Ok-face_of.ensures.stands (keeps_after _ _ _ c.in-Ok.ensures.ok.kept c.in-Ok-face_of.ensures.kept) c.roll_back-in-Ok-face_of.ensures.kept
      (c.roll_back-in-Ok-face_of.ensures.forest (forest c.args.work.now.pool) (old_below (c.open_mark-mark.ensures.trees c.requires.ready.stands) (front_over c.in-Ok.ensures.ok.gives c.face_of.ensures.front)));
  capacity = ap (λ (x : Content). x.capacity) c.write_text.ensures;
  ready = record { stands = c.roll_back-in-Ok-face_of.ensures.stands; lists = omega (arith, c.requires.ready.lists, c.in-Ok.ensures.ok.kept.size, c.in-Ok-face_of.ensures.kept.size, c.face_of.ensures.lists, c.roll_back-in-Ok-face_of.ensures.kept.size) };
}

pub roll_back-requires : goal.roll_back-requires
roll_back-requires c = record {
  stands = c.place_root.ensures.stands;
  below = (forest c.args.work.now.pool, old_below (c.open_mark-mark.ensures.trees c.requires.ready.stands) c.place_root.ensures.front);
}

pub roll_back-requires-in-Ok-face_of : goal.roll_back-requires-in-Ok-face_of
roll_back-requires-in-Ok-face_of c = record {
  stands = c.face_of.ensures.stands;
  below = (forest c.args.work.now.pool, old_below (c.open_mark-mark.ensures.trees c.requires.ready.stands) (front_over c.in-Ok.ensures.ok.gives c.face_of.ensures.front));
}

pub roll_back-requires-in-Err-face_of : goal.roll_back-requires-in-Err-face_of
roll_back-requires-in-Err-face_of c = record {
  stands = c.face_of.ensures.stands;
  below = (forest c.args.work.now.pool, old_below (c.open_mark-mark.ensures.trees c.requires.ready.stands) (front_over c.in-Ok.ensures.ok.gives c.face_of.ensures.front));
}

pub place_root-requires : goal.place_root-requires
place_root-requires c = record {
  stands = c.requires.ready.stands;
}
