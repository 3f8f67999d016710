use Rattle.expand_forms.proofs.Shared.{◌*◌, ◌≤◌, ◌≡◌, ◌↔◌, ◌+◌, ◌<◌, ℕ, Err, Result, sym, subst, arith, Ends, HasNoNewName, Tree, behind_first, behind_new, bits, expansion_room, forest}
use Rattle.expand_forms.proofs.Shared.{free_of, front_after_one, front_same, front_without, given_handed, given_rest, given_told, gives_as, gives_rest, kept_after, last_tree, nodes, replaced_free}
use Rattle.expand_forms.proofs.Shared.{size, tree_of, without_root, Forest, CountsRefusals, IfFull, IfInterrupted, fault_of, ReduceFault, passed_result, LacksBytes, expanded_no_new_name, some_nodes}
use Rattle.expand_forms.proofs.{Shared.{within_room, TripsRose, states, calm_checks_raise_no_trips, CalmUpTo, TripsWithin, unfit_after_checks}, AnswerFaults.{caused_full, caused_overflow}}
use Rattle.expand_forms.proofs.{AnswerFaults.{no_interruption, refusal, told_full, told_interruption, told_overflow, told_refusals}, NodeBits.{beyond_bits}}
use Rattle.reduce_port.specs.Faults.{IfOverflow}
use Rattle.reduce_walk.proofs.Port.{overflow_as}
use Rattle.reduce_port.specs.declared.fault.ReduceFault.TheVariants as fault
use Rattle.number_forms.proofs.Safety.{no_answer}
use Rattle.expand_forms.proofs.expansion.expand.Goals as goal

pub raise_answer-requires : goal.raise_answer-requires
raise_answer-requires g c =
    let t = tree_of c.args.tree c.args.pool.now in
    let walked = gives_rest c.in-Ok.ensures.ok (λ u e. e) in
    let i = c.in-Ok.answer in
    let f = forest c.walk.new.pool in
    record {
      stands = c.walk.ensures.stands;
      handed = given_handed walked;
      last = subst (λ (x : Forest). Ends i x (without_root i f) f) (sym (last_tree walked.ends)) walked.ends;
      ready = (t, c.requires.polynomial, given_told c.in-Ok.ensures.ok);
    }

pub returns-in_ok-raise_answer-in-Ok : goal.returns-in_ok-raise_answer-in-Ok
returns-in_ok-raise_answer-in-Ok g c =
    let t = tree_of c.args.tree c.args.pool.now in
    let p = c.requires.polynomial in
    let walked = c.in-Ok.ensures.ok in
    let raised = c.in_ok-raise_answer-in-Ok.ensures.ok t p (given_told walked) in
    record {
      ok = gives_as raised (given_rest walked) (λ u e. e);
      one_check_a_node = c.in-Ok.ensures.one_check_a_node;
      no_new_name = subst (λ (u : Tree). HasNoNewName t u) (sym (given_told raised)) (expanded_no_new_name t);
      within_room = subst (λ (u : Tree). 5 * size u ≤ expansion_room t) (sym (given_told raised)) (within_room t p);
      interrupted = tt;
      by_the_one_whose_trips_rose = λ place. (λ e. cc, λ w. absurd (calm_checks_raise_no_trips (nodes t) _ _ place c.in-Ok.ensures.one_check_a_node w));
      overflow = tt;
      overflow_beyond_bits = tt;
      overflow_after_checks = tt;
      full = tt;
      full_beyond_room = tt;
      full_after_checks = tt;
      refusals = kept_after c.in-Ok.ensures.refusals c.in_ok-raise_answer-in-Ok.ensures.safe.kept;
      front = front_after_one (behind_new walked.ends (front_without behind_first front_same)) c.walk.ensures.front c.raise_answer.ensures.safe.front;
      stands = c.in_ok-raise_answer-in-Ok.ensures.safe.stands;
    }

pub returns-in_err-raise_answer-in-Ok : goal.returns-in_err-raise_answer-in-Ok
returns-in_err-raise_answer-in-Ok g c =
    let t = tree_of c.args.tree c.args.pool.now in
    let p = c.requires.polynomial in
    let walked = c.in-Ok.ensures.ok in
    let ready = given_told walked in
    let e = c.in_err-raise_answer-in-Ok.field-0.0 in
    let r = c.from_residual.result in
    let told = λ (P : Result ℕ ReduceFault → Type 0). passed_result r (fault_of e) P c.from_residual.ensures.0 c.from_residual.ensures.1 in
    let before = states g.B.Breaker.state c.args.watch.now in
    let after = states g.B.Breaker.state c.walk.new.watch in
    let calm : CalmUpTo (nodes t) before after = record { checks = nodes t; some = some_nodes t; few = omega arith; calm = c.in-Ok.ensures.one_check_a_node } in
    let free = replaced_free c.requires.stands c.walk.ensures.stands c.in-Ok.ensures.refusals c.requires.handed walked in
    record {
      ok = no_answer r _ c.from_residual.ensures.0;
      one_check_a_node = no_answer r _ c.from_residual.ensures.0;
      no_new_name = no_answer r _ c.from_residual.ensures.0;
      within_room = no_answer r _ c.from_residual.ensures.0;
      interrupted = told (λ x. IfInterrupted x (TripsWithin (nodes t) before after)) (told_interruption e (TripsWithin (nodes t) before after));
      by_the_one_whose_trips_rose = λ place. told (λ x. (x ≡ Err (fault.Interrupted (record { by = place }))) ↔ TripsRose before after place)
          (λ q. absurd (no_interruption e (record { by = place }) q), λ w. absurd (calm_checks_raise_no_trips (nodes t) before after place c.in-Ok.ensures.one_check_a_node w));
      overflow = told (λ x. IfOverflow x _) (caused_overflow e c.raise_answer.new.pool c.in_err-raise_answer-in-Ok.ensures.safe.caused);
      overflow_beyond_bits = told (λ x. IfOverflow x (λ _. 124 < bits t)) (told_overflow e (c.in_err-raise_answer-in-Ok.ensures.fits t p ready) (λ o l. beyond_bits t l));
      overflow_after_checks = told (λ x. IfOverflow x (λ _. CalmUpTo (nodes t) before after)) (told_overflow e (c.in_err-raise_answer-in-Ok.ensures.fits t p ready) (λ o l. calm));
      full = told (λ x. IfFull x (LacksBytes c.raise_answer.new.pool)) (caused_full e c.raise_answer.new.pool c.in_err-raise_answer-in-Ok.ensures.safe.caused);
      full_beyond_room = told (λ x. IfFull x (λ _. free_of c.args.pool.now + size t < expansion_room t))
          (told_full e (c.in_err-raise_answer-in-Ok.ensures.room t p ready) (λ full l. omega (arith, l, free)));
      full_after_checks = told (λ x. IfFull x (λ _. CalmUpTo (nodes t) before after)) (told_full e (c.in_err-raise_answer-in-Ok.ensures.room t p ready) (λ full l. calm));
      refusals = told (λ x. CountsRefusals c.args.pool.now c.raise_answer.new.pool x)
          (told_refusals e c.args.pool.now c.walk.new.pool c.raise_answer.new.pool c.in-Ok.ensures.refusals c.in_err-raise_answer-in-Ok.ensures.safe.faults);
      front = front_after_one (behind_new walked.ends (front_without behind_first front_same)) c.walk.ensures.front c.raise_answer.ensures.safe.front;
      stands = c.in_err-raise_answer-in-Ok.ensures.safe.stands;
    }

pub returns-in-Err : goal.returns-in-Err
returns-in-Err g c = let t = tree_of c.args.tree c.args.pool.now in let unfit = c.in-Err.ensures.overflow_at_its_node in let r = refusal c.in-Err.fault in record {
  ok = tt;
  one_check_a_node = tt;
  no_new_name = tt;
  within_room = tt;
  interrupted = c.in-Err.ensures.interrupted;
  by_the_one_whose_trips_rose = c.in-Err.ensures.by_the_one_whose_trips_rose;
  overflow = c.in-Err.ensures.overflow;
  overflow_beyond_bits = overflow_as r unfit (λ o u. beyond_bits t u.unfit);
  overflow_after_checks = overflow_as r unfit (λ o u. unfit_after_checks u);
  full = c.in-Err.ensures.full;
  full_beyond_room = c.in-Err.ensures.full_where_it_may_lack;
  full_after_checks = c.in-Err.ensures.full_after_checks;
  refusals = c.in-Err.ensures.refusals;
  front = c.in-Err.ensures.front;
  stands = c.in-Err.ensures.stands;
}
