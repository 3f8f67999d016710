use Rattle.calc_session.proofs.{Shared.{◌≡◌, ◌∙◌, arith, refl, sym, subst, ap, Shows, CountsRefusal, Refused, front_same, reason_of, refusal_in, root_kind, tree_of, expression, seen}, DerivingLemmas.{over}, EvaluationLemmas.{undef_by_kind, defined_by_kind}, evaluating.show.Goals.{After-kind}}
use Rattle.tree_handles.proofs.Seen.{live}
use Rattle.calc_session.proofs.evaluating.show.Goals as goal

kind_is : (c : After-kind) → c.kind.result ≡ root_kind (tree_of c.args.answer c.args.work.now.pool)
kind_is c = c.kind.ensures.plain (expression c.id.ensures c.requires.ready.stands c.requires.handed) ∙ ap root_kind (seen c.id.ensures c.requires.ready.stands c.requires.handed)

pub kind-requires : goal.kind-requires
kind-requires c = record { stands = c.requires.ready.stands; live = live c.args.work.now.pool c.id.ensures c.requires.handed.root }

pub returns-in-Undef : goal.returns-in-Undef
returns-in-Undef c = record {
  shows = undef_by_kind _ (sym (kind_is (goal.at.returns-in-Undef c).After-kind) ∙ c.in-Undef.is);
  counted = record { size = refl; refusals = refl; last_refused = refl };
  front = front_same;
  ready = c.requires.ready;
}

pub face_of-requires : goal.face_of-requires
face_of-requires c = record {
  stands = c.requires.ready.stands;
  handed = c.requires.handed;
  reduced = c.requires.reduced;
  defined = defined_by_kind _ (λ k. c.in_default.not-Undef (kind_is (goal.at.face_of-requires c).After-kind ∙ k));
  lists = c.requires.ready.lists;
}

pub returns-in-Ok : goal.returns-in-Ok
returns-in-Ok c = record {
  shows = (defined_by_kind _ (λ k. c.in_default.not-Undef (kind_is (goal.at.returns-in-Ok c).After-kind ∙ k)), c.in-Ok.ensures.ok);
  counted = c.in-Ok.ensures.kept;
  front = c.face_of.ensures.front;
  ready = record { stands = c.face_of.ensures.stands; lists = omega (arith, c.requires.ready.lists, c.in-Ok.ensures.kept.size, c.face_of.ensures.lists) };
}

pub returns-in-Err : goal.returns-in-Err
returns-in-Err c =
    let old = c.args.work.now.pool in
    let new = c.face_of.new.pool in
    let err = c.in-Err.ensures in
    record {
      shows = subst (λ r. Shows c.args.answer old new (Refused r)) (sym c.refused.ensures) (err.caused, over _ _ (λ fits. cc (err.enough fits)));
      counted = subst (λ r. CountsRefusal (refusal_in (reason_of r)) old new) (sym c.refused.ensures) err.refused;
      front = c.face_of.ensures.front;
      ready = record { stands = c.face_of.ensures.stands; lists = omega (arith, c.requires.ready.lists, err.refused.size, c.face_of.ensures.lists) };
    }
