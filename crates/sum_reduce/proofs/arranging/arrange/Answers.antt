use Rattle.sum_reduce.proofs.Shared.{sym, subst, ap, arith, passed_result, plain_value, add, sizes, AnswersFold, forest, behind_first, front_after_one, terms_in, passed_named, collects_opened}
use Rattle.sum_reduce.proofs.Shared.{Overflows, SpansRoot, SpansTrees, passed_lacks, HaveFewBits, IsCaused, OfOverflow, Trees, addends_of_each, passed_on, faults_after, none_kept, Faults}
use Rattle.sum_reduce.proofs.{Orders.{opened_stage, rationals_faulted, rationals_ordered}, Stages.{stage_after}, Sums.{changes_after, changes_front}, Hindered.{overflows_after, overflows_as}}
use Rattle.sum_reduce.proofs.{CollectedParts.{opened_parts}, SumBytes.{changes_free, opened_sizes}, Held.{few_after}, HeldTerms.{opened_held}}
use Rattle.sum_reduce.proofs.arranging.arrange.Goals as goal

pub returns-in_err-join_numbers : goal.returns-in_err-join_numbers
returns-in_err-join_numbers c =
    let ts = terms_in c.args.sum.now (forest c.args.pool.now) in
    let us = terms_in c.args.sum.now (forest c.open_sums.new.pool) in
    let vs = terms_in c.args.sum.now (forest c.join_numbers.new.pool) in
    let o = c.open_sums.ensures in
    let r = c.from_residual.result in
    let fault = c.in_err-join_numbers.field-0.0 in
    let refused = c.from_residual.ensures.0 in
    let same = c.from_residual.ensures.1 in
    let told = c.in_err-join_numbers.ensures in
    let free = changes_free c.requires.stands o.stands o.kept c.requires.sum o.changes in
    record {
      ok = none_kept r _ refused;
      stage = none_kept r _ refused;
      arranged = none_kept r _ refused;
      rationals = λ q. passed_result r fault (AnswersFold (plain_value (add ts)) vs) refused same (rationals_faulted ts us vs vs _ q o.opened told.rationals);
      front = front_after_one behind_first (changes_front o.changes) c.join_numbers.ensures.front;
      kept = none_kept r _ refused;
      faults = passed_on r fault (Faults c.args.pool.now c.join_numbers.new.pool) refused same (faults_after _ fault o.kept told.faults);
      caused = passed_on r fault (IsCaused c.join_numbers.new.pool) refused same told.caused;
      overflow = passed_named r fault _ (Overflows ts) same told.overflow (λ x h. overflows_after collects_opened x (overflows_as o.opened x h));
      bits = λ b. passed_on r fault (OfOverflow (λ o. ⊥)) refused same
          (told.bits (subst (λ (x : Trees). HaveFewBits (addends_of_each x)) (sym o.opened) (few_after (opened_held ts c.requires.formed) b)));
      room = λ gs s. passed_lacks r fault _ _ same (told.room gs (subst (SpansTrees gs) (sym o.opened) (opened_parts (SpansRoot gs) ts s)))
          (λ full l. omega (arith, l, free, ap sizes o.opened, opened_sizes ts));
      stands = c.join_numbers.ensures.stands;
    }

pub returns-clause-stage : goal.returns-clause-stage
returns-clause-stage c =
    stage_after (stage_after (opened_stage _ _ c.requires.formed c.requires.some c.open_sums.ensures.opened) c.in_ok-join_numbers.ensures.joined.stage) c.sort_terms.ensures.stage

pub returns-clause-rationals : goal.returns-clause-rationals
returns-clause-rationals c =
    λ q. rationals_ordered (terms_in c.args.sum.now (forest c.args.pool.now)) (terms_in c.args.sum.now (forest c.open_sums.new.pool))
    (terms_in c.args.sum.now (forest c.join_numbers.new.pool)) _ q c.open_sums.ensures.opened
    c.in_ok-join_numbers.ensures.rationals c.sort_terms.ensures.alone

pub returns-clause-front : goal.returns-clause-front
returns-clause-front c = changes_front (changes_after (changes_after c.open_sums.ensures.changes c.in_ok-join_numbers.ensures.ok) c.sort_terms.ensures.changes)
