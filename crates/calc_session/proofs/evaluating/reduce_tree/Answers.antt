use Rattle.std.proofs.Common.{◌+◌, Err, refl, sym, subst}
use Rattle.calc_session.proofs.{Shared.{TripsRose, states, size, free_of, tree_of, Handle, given_handed, Refusal, reply_of, IsReduction}, EvaluationLemmas.{answer_to, fault_counted, fault_passed, full_both, none_tripped_then, overflow_at, refused_reply}}
use Rattle.calc_session.proofs.evaluating.reduce_tree.Goals as goal

pub reduce-requires : goal.reduce-requires
reduce-requires g c = record { stands = c.requires.stands; handed = given_handed c.requires.last }

pub returns-in-Ok : goal.returns-in-Ok
returns-in-Ok g c =
    let ok = c.in-Ok.ensures in
    let trips = TripsRose (states g.B.Breaker.state c.args.watch.now) (states g.B.Breaker.state c.reduce.new.watch) in
    record {
      answer = answer_to g.R.Reducer.room c.requires.stands c.reduce.ensures.stands ok.refusals.size c.requires.last ok.reduces ok.easy_trees ok.bad_parts ok.plain_answers ok.within_room;
      calm = ok.one_check_a_node;
      refused = λ store. tt;
      interrupted = λ place. (λ e. cc, λ p. absurd (none_tripped_then c.in-Ok.answer trips ok.by_the_one_whose_trips_rose place p));
      kept = ok.refusals;
      counted = tt;
      front = c.reduce.ensures.front;
      stands = c.reduce.ensures.stands;
    }

pub returns-in-Err : goal.returns-in-Err
returns-in-Err g c =
    let t = tree_of c.args.tree c.args.pool.now in
    let before = states g.B.Breaker.state c.args.watch.now in
    let after = states g.B.Breaker.state c.reduce.new.watch in
    let err = c.in-Err.ensures in
    record {
      answer = tt;
      calm = tt;
      refused = λ store. subst (λ (r : Refusal). IsReduction g.R.Reducer.room g.R.Reducer.bits (free_of c.args.pool.now + size t) t before after store (reply_of r)) (sym c.refusal_of.ensures)
          (refused_reply g.R.Reducer.room g.R.Reducer.bits before after store Handle c.in-Err.fault c.requires.stands c.reduce.ensures.stands err.refusals c.requires.last c.reduce.ensures.front err.interrupted
          (overflow_at Handle g.R.Reducer.bits t before after (Err c.in-Err.fault) err.overflow err.plain_overflows err.overflow_beyond_bits err.overflow_after_checks err.plain_overflow_at_its_node)
          err.full (full_both Handle (Err c.in-Err.fault) _ _ err.full_beyond_room err.full_after_checks));
      interrupted = fault_passed Handle (Err c.in-Err.fault) (Err c.refusal_of.result) c.in-Err.fault c.refusal_of.result (TripsRose before after) refl refl c.refusal_of.ensures err.by_the_one_whose_trips_rose;
      kept = tt;
      counted = fault_counted Handle c.args.pool.now c.reduce.new.pool c.in-Err.fault c.refusal_of.result c.refusal_of.ensures err.refusals;
      front = c.reduce.ensures.front;
      stands = c.reduce.ensures.stands;
    }
