use Rattle.std.proofs.Common.{◌≡◌, ◌∙◌, ◌+◌, Err, true, false, refl, sym, ap, subst}
use Rattle.calc_session.proofs.Shared.{TripsRose, arith, inl, front_same, keeps_after, refuses_after, states, size, is_polynomial, free_of, Handle, plain, tree_of, tree_at, forest, given_handed, given_root, expression_root, plain_root, Refusal, reply_of}
use Rattle.calc_session.proofs.{Shared.{IsReplyToExpansion, is_no_polynomial, reported, reason_of, refusal_in}, DerivingLemmas.{over}, EvaluationLemmas.{calm_refused, face_calm, fault_counted, fault_passed, front_in_place, full_interrupts_none, none_tripped_then, other_refusal, passed_on, size_kept}, ExpansionLemmas.{comes_expanded}}
use Rattle.calc_session.proofs.{ExpansionLemmas.{expansion_defined, expansion_reduced, lacks_face, unexpanded_reply}, expanding.ExpansionCalculation.run.Goals.{After-id, After-expand}}
use Rattle.calc_session.proofs.{CountingLemmas.{none_known}, Shared.{CountsRefusal, IsCountedBut}}
use Rattle.calc_session.specs.Expanding.{lacks_bytes}
use Rattle.calc_session.specs.declared.answers.Refusal.TheVariants as refusal
use Rattle.calc_session.proofs.expanding.ExpansionCalculation.run.Goals as goal

-- the tree at the identifier of its handle
same : (g : _) (c : After-id g) → plain (tree_at c.id.result (forest c.args.work.now.pool)) ≡ tree_of c.args.tree c.args.work.now.pool
same g c = ap (λ i. plain (tree_at i (forest c.args.work.now.pool))) c.id.ensures ∙ plain_root c.args.tree c.requires.ready.stands (given_root c.requires.last)

pub is_polynomial-requires : goal.is_polynomial-requires
is_polynomial-requires g c = record { stands = c.requires.ready.stands; expression = rw c.id.ensures (expression_root c.requires.ready.stands (given_handed c.requires.last)) }

pub returns-then-not-is_polynomial : goal.returns-then-not-is_polynomial
returns-then-not-is_polynomial g c = record {
  reply = is_no_polynomial (ap is_polynomial (sym (same g (goal.at.returns-then-not-is_polynomial g c).After-id)) ∙ sym c.is_polynomial.ensures ∙ c.if-not-is_polynomial.true) refl;
  interrupted = calm_refused refusal.NotPolynomial (states g.B.Breaker.state c.args.watch.now) (λ place e. cc);
  counted = inl (tt, record { size = refl; refusals = refl; last_refused = refl });
  front = front_same;
  size = refl;
  ready = c.requires.ready;
}

pub expand-requires : goal.expand-requires
expand-requires g c = record {
  stands = c.requires.ready.stands;
  handed = given_handed c.requires.last;
  polynomial = ap is_polynomial (sym (same g (goal.at.expand-requires g c).After-id)) ∙ sym c.is_polynomial.ensures ∙ c.if-not-is_polynomial.false;
}

pub face_of-requires : goal.face_of-requires
face_of-requires g c = record {
  stands = c.expand.ensures.stands;
  handed = given_handed c.in-Ok.ensures.ok;
  reduced = expansion_reduced c.args.work.now.pool c.expand.new.pool c.requires.last c.in-Ok.ensures.ok;
  defined = expansion_defined c.args.work.now.pool c.expand.new.pool c.requires.last c.in-Ok.ensures.ok;
  lists = omega (arith, c.requires.ready.lists, c.in-Ok.ensures.refusals.size);
}

is : (g : _) (c : After-expand g) → is_polynomial (tree_of c.args.tree c.args.work.now.pool) ≡ true
is g c = ap is_polynomial (sym (ap (λ i. plain (tree_at i (forest c.args.work.now.pool))) c.id.ensures ∙ plain_root c.args.tree c.requires.ready.stands (given_root c.requires.last))) ∙ sym c.is_polynomial.ensures ∙ c.if-not-is_polynomial.false

pub returns-in-Ok-face_of : goal.returns-in-Ok-face_of
returns-in-Ok-face_of g c =
    let before = states g.B.Breaker.state c.args.watch.now in
    let after = states g.B.Breaker.state c.expand.new.watch in
    let ok = c.in-Ok.ensures in
    let kept = keeps_after _ _ _ ok.refusals c.in-Ok-face_of.ensures.kept in
    record {
      reply = comes_expanded c.args.work.now.pool c.expand.new.pool c.requires.last ok.ok before after c.requires.ready.stands c.expand.ensures.stands ok.refusals.size (is g (goal.at.returns-in-Ok-face_of g c).After-expand) ok.one_check_a_node (forest c.face_of.new.pool) c.in-Ok-face_of.face c.in-Ok-face_of.ensures.ok;
      interrupted = face_calm c.in-Ok-face_of.face (TripsRose before after) (none_tripped_then c.in-Ok.expansion (TripsRose before after) ok.by_the_one_whose_trips_rose);
      counted = inl (tt, kept);
      front = front_in_place c.requires.last ok.ok c.expand.ensures.front c.face_of.ensures.front;
      size = kept.size;
      ready = record { stands = c.face_of.ensures.stands; lists = omega (arith, c.requires.ready.lists, kept.size, c.face_of.ensures.lists) };
    }

never : false ≡ true → ⊥
never e = cc

pub returns-in-Err-face_of : goal.returns-in-Err-face_of
returns-in-Err-face_of g c =
    let t = tree_of c.args.tree c.args.work.now.pool in
    let before = states g.B.Breaker.state c.args.watch.now in
    let after = states g.B.Breaker.state c.expand.new.watch in
    let known = is g (goal.at.returns-in-Err-face_of g c).After-expand in
    let ok = c.in-Ok.ensures in
    let full = c.in-Err-face_of.full in
    let refuses = refuses_after _ _ _ full ok.refusals c.in-Err-face_of.ensures.refused in
    record {
      reply =
          subst (λ (r : Refusal). IsReplyToExpansion (free_of c.args.work.now.pool + size t) before after (free_of c.args.work.now.pool) t (reported (reply_of r))) (sym c.refused.ensures)
          (lacks_bytes known (lacks_face c.args.work.now.pool c.expand.new.pool c.requires.last ok.ok before after c.requires.ready.stands c.expand.ensures.stands ok.refusals.size known ok.one_check_a_node
          full c.face_of.ensures.stands c.in-Err-face_of.ensures.refused.size c.face_of.ensures.front c.in-Err-face_of.ensures.caused (over _ _ (λ fits. never (c.in-Err-face_of.ensures.enough fits))) ok.within_room));
      interrupted = other_refusal c.refused.result (TripsRose before after) (none_tripped_then c.in-Ok.expansion (TripsRose before after) ok.by_the_one_whose_trips_rose) (λ place e. full_interrupts_none c.refused.result _ _ place c.refused.ensures e);
      counted = subst (λ r. IsCountedBut (λ _. ⊥) (λ lack. CountsRefusal lack c.args.work.now.pool c.face_of.new.pool) (refusal_in (reason_of r))) (sym c.refused.ensures) (inl (λ h. h, refuses));
      front = front_in_place c.requires.last ok.ok c.expand.ensures.front c.face_of.ensures.front;
      size = refuses.size;
      ready = record { stands = c.face_of.ensures.stands; lists = omega (arith, c.requires.ready.lists, refuses.size, c.face_of.ensures.lists) };
    }

pub returns-in-Err : goal.returns-in-Err
returns-in-Err g c =
    let t = tree_of c.args.tree c.args.work.now.pool in
    let before = states g.B.Breaker.state c.args.watch.now in
    let after = states g.B.Breaker.state c.expand.new.watch in
    let err = c.in-Err.ensures in
    let lack = refusal_in (reason_of c.refusal_of.result) in
    let counted = fault_counted Handle c.args.work.now.pool c.expand.new.pool c.in-Err.fault c.refusal_of.result c.refusal_of.ensures err.refusals in
    let size_is = size_kept lack c.args.work.now.pool c.expand.new.pool counted in
    record {
      reply =
          subst (λ (r : Refusal). IsReplyToExpansion (free_of c.args.work.now.pool + size t) before after (free_of c.args.work.now.pool) t (reported (reply_of r))) (sym c.refusal_of.ensures)
          (unexpanded_reply Handle before after c.in-Err.fault c.requires.ready.stands c.expand.ensures.stands err.refusals c.requires.last c.expand.ensures.front (is g (goal.at.returns-in-Err g c).After-expand)
          err.interrupted err.overflow err.overflow_beyond_bits err.overflow_after_checks err.full err.full_beyond_room err.full_after_checks);
      interrupted = passed_on Handle (Err c.refusal_of.result) c.refusal_of.result (TripsRose before after) refl (fault_passed Handle (Err c.in-Err.fault) (Err c.refusal_of.result) c.in-Err.fault c.refusal_of.result (TripsRose before after) refl refl c.refusal_of.ensures err.by_the_one_whose_trips_rose);
      counted = inl (none_known lack (λ _ k. k), counted);
      front = c.expand.ensures.front;
      size = size_is;
      ready = record { stands = c.expand.ensures.stands; lists = omega (arith, c.requires.ready.lists, size_is) };
    }
