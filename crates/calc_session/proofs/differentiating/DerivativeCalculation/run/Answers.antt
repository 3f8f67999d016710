use Rattle.calc_session.proofs.Shared.{both_ways, arith, TripsRose, Handle, front_same, ◌≡◌, ◌∙◌, false, inl, inr, refl, sym, ap, subst, states, name_of, size, HasDerivative, derivative, free_of, tree_of, Gives}
use Rattle.calc_session.proofs.Shared.{without_root, forest, KeepsRefusals, keeps_after, given_handed, given_other, given_rest, given_told, gives_as, owned, Refusal, refusal_of_evaluation, reason_of}
use Rattle.calc_session.proofs.{Shared.{reply_of, IsReplyToDerivative, LacksDerivative, has_none, refusal_in, reported, expression, seen, Refused}, CountingLemmas.{none_known, none_short}}
use Rattle.calc_session.proofs.{DerivingLemmas.{comes_reduced, front_beside, over}, EvaluationLemmas.{calm_refused, front_in_place, full_interrupts_none, keeps_then, none_tripped, passed_on, shown_answer, shown_calm, size_kept}}
use Rattle.calc_session.proofs.differentiating.DerivativeCalculation.run.Goals.{After-release, After-refused}
use Rattle.std.proofs.Common.{◌+◌, ◌≤◌, None, Err}
use Rattle.beautify.proofs.FaceTrees.{other_gone as beside_released}
use Rattle.node_pool.specs.State.{State}
use Rattle.calc_session.specs.Deriving.{lacks_bytes}
use Rattle.calc_session.specs.declared.answers.Refusal.TheVariants as refusal
use Rattle.calc_session.proofs.differentiating.DerivativeCalculation.run.Goals as goal

pub has_derivative-requires : goal.has_derivative-requires
has_derivative-requires g c = record { stands = c.requires.ready.stands; expression = expression c.id-id.ensures c.requires.ready.stands (given_handed c.requires.last) }

pub returns-then-not-has_derivative : goal.returns-then-not-has_derivative
returns-then-not-has_derivative g c = record {
  reply = has_none (λ h. both_ways c.has_derivative.result c.if-not-has_derivative.true (c.has_derivative.ensures.1 (subst (HasDerivative (name_of c.args.self.now.name)) (sym (seen c.id-id.ensures c.requires.ready.stands (given_handed c.requires.last))) h))) refl;
  interrupted = calm_refused refusal.NoDerivative (states g.B.Breaker.state c.args.watch.now) (λ place e. cc);
  counted = inl (tt, record { size = refl; refusals = refl; last_refused = refl });
  front = front_same;
  size = refl;
  ready = c.requires.ready;
}

pub derive-requires : goal.derive-requires
derive-requires g c = record {
  stands = c.requires.ready.stands;
  expression = expression c.id-id.ensures c.requires.ready.stands (given_handed c.requires.last);
  derivable = c.has_derivative.ensures.0 c.if-not-has_derivative.false;
}

-- the derivative stands behind the tree, and then in its place
pub release-requires : goal.release-requires
release-requires g c = record { stands = c.derive.ensures.stands; releasable = inl (given_other c.in-Ok.ensures.ok (given_handed c.requires.last)).root }

released : (g : _) (c : After-release g) → forest c.release.new.pool ≡ without_root c.args.tree (forest c.derive.new.pool)
released g c = c.release.ensures.owned (owned (given_other c.in-Ok.ensures.ok (given_handed c.requires.last)))

placed : (g : _) (c : After-release g) → Gives (without_root c.args.tree (forest c.args.work.now.pool)) (forest c.release.new.pool) c.in-Ok.derivative (λ t. t ≡ derivative (name_of c.args.self.now.name) (tree_of c.args.tree c.args.work.now.pool))
placed g c =
    let is = seen c.id-id.ensures c.requires.ready.stands (given_handed c.requires.last) in
    beside_released (given_handed c.requires.last) (gives_as c.in-Ok.ensures.ok refl (λ t e. e ∙ ap (derivative (name_of c.args.self.now.name)) is)) (released g c)

fits : (g : _) (c : After-release g) → size (derivative (name_of c.args.self.now.name) (tree_of c.args.tree c.args.work.now.pool)) ≤ free_of c.args.work.now.pool
fits g c = subst (λ t. size (derivative (name_of c.args.self.now.name) t) ≤ free_of c.args.work.now.pool) (seen c.id-id.ensures c.requires.ready.stands (given_handed c.requires.last)) (c.in-Ok.ensures.exactly.0 refl)

derivable : (g : _) (c : After-release g) → HasDerivative (name_of c.args.self.now.name) (tree_of c.args.tree c.args.work.now.pool)
derivable g c = subst (HasDerivative (name_of c.args.self.now.name)) (seen c.id-id.ensures c.requires.ready.stands (given_handed c.requires.last)) (c.has_derivative.ensures.0 c.if-not-has_derivative.false)

pub reduce_tree-requires : goal.reduce_tree-requires
reduce_tree-requires g c =
    let p = placed g (goal.at.reduce_tree-requires g c).After-release in
    record { stands = c.release.ensures.stands; last = gives_as p (sym (given_rest p)) (λ t x. tt) }

pub returns-in-Err-reduce_tree : goal.returns-in-Err-reduce_tree
returns-in-Err-reduce_tree g c =
    let here = (goal.at.returns-in-Err-reduce_tree g c).After-release in
    let before = states g.B.Breaker.state c.args.watch.now in
    let after = states g.B.Breaker.state c.reduce_tree.new.watch in
    let r = c.in-Err-reduce_tree.refusal in
    let lack = refusal_in (reason_of r) in
    let kept = keeps_after _ _ _ c.in-Ok.ensures.kept c.release.ensures.kept in
    let counted = keeps_then lack c.args.work.now.pool c.release.new.pool c.reduce_tree.new.pool kept c.in-Err-reduce_tree.ensures.counted in
    let size_is = size_kept lack c.args.work.now.pool c.reduce_tree.new.pool counted in
    record {
      reply = comes_reduced g.R.Reducer.room g.R.Reducer.bits before after (name_of c.args.self.now.name) c.args.work.now.pool c.release.new.pool (forest c.reduce_tree.new.pool) (Refused r)
          c.requires.ready.stands c.release.ensures.stands kept.size c.requires.last (placed g here) (derivable g here) (fits g here) (c.in-Err-reduce_tree.ensures.refused None);
      interrupted = passed_on Handle (Err r) r (TripsRose before after) refl c.in-Err-reduce_tree.ensures.interrupted;
      counted = inl (none_known lack (none_short (name_of c.args.self.now.name) (free_of c.args.work.now.pool) (tree_of c.args.tree c.args.work.now.pool) (fits g here)), counted);
      front = front_beside c.in-Ok.ensures.ok (released g here) c.reduce_tree.ensures.front;
      size = size_is;
      ready = record { stands = c.reduce_tree.ensures.stands; lists = omega (arith, c.requires.ready.lists, size_is) };
    }

pub show-requires : goal.show-requires
show-requires g c =
    let a = c.in-Ok-reduce_tree.ensures.answer in
    record {
      ready = record { stands = c.reduce_tree.ensures.stands; lists = omega (arith, c.requires.ready.lists, c.in-Ok-reduce_tree.ensures.kept.size, c.release.ensures.kept.size, c.in-Ok.ensures.kept.size) };
      handed = given_handed a;
      reduced = (given_told a).0.reduces.reduced;
    }

pub returns-in-Ok-reduce_tree : goal.returns-in-Ok-reduce_tree
returns-in-Ok-reduce_tree g c =
    let here = (goal.at.returns-in-Ok-reduce_tree g c).After-release in
    let room = g.R.Reducer.room in
    let bits = g.R.Reducer.bits in
    let before = states g.B.Breaker.state c.args.watch.now in
    let after = states g.B.Breaker.state c.reduce_tree.new.watch in
    let p = placed g here in
    let shown = c.show.ensures in
    let lack = refusal_of_evaluation c.show.result in
    let kept = keeps_after _ _ _ c.in-Ok.ensures.kept c.release.ensures.kept in
    record {
      reply =
          comes_reduced room bits before after (name_of c.args.self.now.name) c.args.work.now.pool c.release.new.pool (forest c.show.new.work.pool) c.show.result
          c.requires.ready.stands c.release.ensures.stands (c.release.ensures.kept.size ∙ c.in-Ok.ensures.kept.size) c.requires.last p (derivable g here) (fits g here)
          (shown_answer room bits before after None c.show.result c.release.ensures.stands c.reduce_tree.ensures.stands shown.ready.stands c.in-Ok-reduce_tree.ensures.kept.size (size_kept (refusal_of_evaluation c.show.result) c.reduce_tree.new.pool c.show.new.work.pool shown.counted)
          (gives_as p (sym (given_rest p)) (λ t x. x)) c.in-Ok-reduce_tree.ensures.answer c.in-Ok-reduce_tree.ensures.calm tt shown.front shown.shows);
      interrupted = shown_calm c.in-Ok-reduce_tree.answer c.reduce_tree.new.pool c.show.new.work.pool c.show.result (TripsRose before after) (none_tripped c.in-Ok-reduce_tree.answer (TripsRose before after) c.in-Ok-reduce_tree.ensures.interrupted) shown.shows;
      counted =
          inl (
            none_known lack (none_short (name_of c.args.self.now.name) (free_of c.args.work.now.pool) (tree_of c.args.tree c.args.work.now.pool) (fits g (goal.at.returns-in-Ok-reduce_tree g c).After-release)),
            keeps_then lack c.args.work.now.pool c.reduce_tree.new.pool c.show.new.work.pool (keeps_after _ _ _ kept c.in-Ok-reduce_tree.ensures.kept) c.show.ensures.counted,
          );
      front =
          let p = placed g (goal.at.returns-in-Ok-reduce_tree g c).After-release in
          front_beside c.in-Ok.ensures.ok (released g (goal.at.returns-in-Ok-reduce_tree g c).After-release) (front_in_place (gives_as p (sym (given_rest p)) (λ t x. x)) c.in-Ok-reduce_tree.ensures.answer c.reduce_tree.ensures.front c.show.ensures.front);
      size = size_kept (refusal_of_evaluation c.show.result) c.reduce_tree.new.pool c.show.new.work.pool c.show.ensures.counted ∙ c.in-Ok-reduce_tree.ensures.kept.size ∙ c.release.ensures.kept.size ∙ c.in-Ok.ensures.kept.size;
      ready = shown.ready;
    }

-- the derivative finds no room
lacks : (g : _) (c : After-refused g) → LacksDerivative (name_of c.args.self.now.name) (free_of c.args.work.now.pool) (tree_of c.args.tree c.args.work.now.pool) c.in-Err.full
lacks g c =
    let x = name_of c.args.self.now.name in
    subst (λ t. LacksDerivative x (free_of c.args.work.now.pool) t c.in-Err.full) (seen c.id-id.ensures c.requires.ready.stands (given_handed c.requires.last))
    (record { derivable = c.has_derivative.ensures.0 c.if-not-has_derivative.false; short = over _ _ (λ fits. both_ways false refl (c.in-Err.ensures.exactly.1 fits)); refusal_is = c.in-Err.ensures.full })

pub returns-in-Err : goal.returns-in-Err
returns-in-Err g c =
    let before = states g.B.Breaker.state c.args.watch.now in
    let t = tree_of c.args.tree c.args.work.now.pool in
    record {
      reply =
          subst (λ (r : Refusal). IsReplyToDerivative g.R.Reducer.room g.R.Reducer.bits (free_of c.args.work.now.pool + size t) before before (name_of c.args.self.now.name) (free_of c.args.work.now.pool) t (reported (reply_of r))) (sym c.refused.ensures)
          (lacks_bytes (lacks g (goal.at.returns-in-Err g c).After-refused) refl);
      interrupted = calm_refused c.refused.result (states g.B.Breaker.state c.args.watch.now) (λ place e. full_interrupts_none c.refused.result _ _ place c.refused.ensures e);
      counted = inr (
        c.in-Err.full,
        ap (λ r. refusal_in (reason_of r)) c.refused.ensures,
        lacks g (goal.at.returns-in-Err g c).After-refused,
        subst (λ p. KeepsRefusals c.args.work.now.pool p) (sym c.in-Err.ensures.unchanged) (record { size = refl; refusals = refl; last_refused = refl }),
      );
      front = record { keeps = λ first starts apart. c.derive.ensures.front.keeps first starts tt };
      size = ap (λ (p : State). p.size) c.in-Err.ensures.unchanged;
      ready = record { stands = c.derive.ensures.stands; lists = omega (arith, c.requires.ready.lists, ap (λ (p : State). p.size) c.in-Err.ensures.unchanged) };
    }
