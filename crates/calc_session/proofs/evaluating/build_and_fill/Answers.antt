use Rattle.calc_session.proofs.Shared.{◌∙◌, CountsRefusal, sym, subst, bare, tokens_of, LacksNames, HasEntries, table_names, keeps_after, given_rest, gives_as, reason_of, refusal_in}
use Rattle.calc_session.proofs.EvaluationLemmas.{fault_interrupts_none, front_over, full_interrupts_none, gives_told, keeps_then, made_filled, unbuilt, unfilled, unfilled_count}
use Rattle.calc_session.proofs.evaluating.build_and_fill.Goals as goal

pub fill-requires : goal.fill-requires
fill-requires c = record {
  stands = c.build.ensures.stands;
  last = gives_as c.in-Ok.ensures.ok (sym (given_rest c.in-Ok.ensures.ok)) (λ t x. tt);
  entries = subst (HasEntries c.args.table.now) (sym (given_rest c.in-Ok.ensures.ok)) c.requires.entries;
}

pub returns-in-Err : goal.returns-in-Err
returns-in-Err c = record {
  ok = tt;
  made = λ t is. tt;
  refused = λ t is. unbuilt c.args.table.now c.args.pool.now t c.in-Err.full c.refused.result (c.in-Err.ensures.full t is) c.refused.ensures;
  kept = tt;
  counted = subst (λ r. CountsRefusal (refusal_in (reason_of r)) c.args.pool.now c.build.new.pool) (sym c.refused.ensures) c.in-Err.ensures.refuses;
  no_breaker = λ place e. full_interrupts_none c.refused.result _ _ place c.refused.ensures e;
  front = c.build.ensures.front;
  stands = c.build.ensures.stands;
}

pub returns-in-Ok-fill : goal.returns-in-Ok-fill
returns-in-Ok-fill c =
    let built = c.in-Ok.ensures in
    let filled = c.in-Ok-fill.ensures in
    record {
      ok = gives_told (LacksNames (table_names c.args.table.now)) (gives_as filled.ok (given_rest built.ok) (λ t x. x)) filled.clear;
      made = λ t is. made_filled c.args.table.now c.args.pool.now c.build.new.pool (bare (tokens_of c.args.parser.now)) t built.ok is (built.room t is) ∙ filled.ok_room;
      refused = λ t is. tt;
      kept = keeps_after _ _ _ built.kept filled.kept;
      counted = tt;
      no_breaker = tt;
      front = front_over built.ok c.fill.ensures.front;
      stands = c.fill.ensures.stands;
    }

pub returns-in-Err-fill : goal.returns-in-Err-fill
returns-in-Err-fill c =
    let built = c.in-Ok.ensures in
    let err = c.in-Err-fill.ensures in
    record {
      ok = tt;
      made = λ t is. tt;
      refused = λ t is. unfilled c.args.table.now c.args.pool.now c.build.new.pool (bare (tokens_of c.args.parser.now)) t built.ok is (built.room t is) c.in-Err-fill.fault c.unfilled.result err.refused c.unfilled.ensures;
      kept = tt;
      counted = keeps_then (refusal_in (reason_of c.unfilled.result)) c.args.pool.now c.build.new.pool c.fill.new.pool built.kept (unfilled_count c.build.new.pool c.fill.new.pool c.in-Err-fill.fault c.unfilled.result c.unfilled.ensures err.faults);
      no_breaker = λ place e. fault_interrupts_none c.unfilled.result c.in-Err-fill.fault place c.unfilled.ensures e;
      front = front_over built.ok c.fill.ensures.front;
      stands = c.fill.ensures.stands;
    }
