use Rattle.sum_reduce.proofs.Shared.{◌+◌, arith, keeps_after, behind_first, front_after_one, forest, collects_then, terms_in, passed_lacks, free_of, sum_count, passed_result, passed_named, OfOverflow}
use Rattle.sum_reduce.proofs.{Shared.{Overflows, AnswersFold, plain_value, add, IsCaused, passed_on, faults_after, none_kept, Faults}, Orders.{folded_alone, arranged_flat}, Hindered.{overflows_after}}
use Rattle.sum_reduce.proofs.{Held.{few_after}, Stages.{stage_after}, Sums.{changes_after}, CollectedSpans.{spans_collected}, Rooms.{fewer_lack, terms_lack, arranged_counts}, SumBytes.{changes_free}}
use Rattle.sum_reduce.proofs.arranging.settle.Goals as goal

pub loop-at-preserved : goal.loop-at-preserved
loop-at-preserved c =
    let i = c.loop-at.invariant in
    let j = c.in_ok-join_pairs.ensures in
    let a = c.in_ok-arrange-2.ensures in
    record {
      changes = changes_after (changes_after i.changes j.ok) a.ok;
      stage = stage_after (stage_after i.stage j.stage) a.stage;
      arranged = a.arranged;
      folded = λ q. absurd (folded_alone _ _ c.in-Some.at (i.folded q) c.in-Some.ensures.pair.pair);
      front = front_after_one behind_first (front_after_one behind_first i.front c.join_pairs.ensures.front) c.arrange-in-Some.ensures.front;
      kept = keeps_after _ _ _ (keeps_after _ _ _ i.kept j.kept) a.kept;
      stands = a.stands;
    }

pub join_pairs-requires : goal.join_pairs-requires
join_pairs-requires c =
    let i = c.loop-at.invariant in
    let p = c.in-Some.ensures in
    record { stands = i.stands; sum = i.changes.sum; formed = i.stage.formed; flat = arranged_flat _ i.arranged; pair = p.pair.pair; fits = p.fits }

pub returns-in_err-arrange : goal.returns-in_err-arrange
returns-in_err-arrange c =
    let ts = terms_in c.args.sum.now (forest c.args.pool.now) in
    let r = c.from_residual.result in
    let fault = c.in_err-arrange.field-0.0 in
    let refused = c.from_residual.ensures.0 in
    let same = c.from_residual.ensures.1 in
    let told = c.in_err-arrange.ensures in
    record {
      ok = none_kept r _ refused;
      stage = none_kept r _ refused;
      settled = none_kept r _ refused;
      rationals = λ q. passed_result r fault (AnswersFold (plain_value (add ts)) (terms_in c.args.sum.now (forest c.arrange.new.pool))) refused same (told.rationals q);
      front = c.arrange.ensures.front;
      kept = none_kept r _ refused;
      faults = passed_on r fault (Faults c.args.pool.now c.arrange.new.pool) refused same told.faults;
      caused = passed_on r fault (IsCaused c.arrange.new.pool) refused same told.caused;
      overflow = passed_on r fault (OfOverflow (Overflows ts)) refused same told.overflow;
      bits = λ b. passed_on r fault (OfOverflow (λ o. ⊥)) refused same (told.bits b);
      room = λ gs s. passed_lacks r fault _ _ same (told.room gs s) (λ full l. terms_lack gs ts (free_of c.args.pool.now) (1 + sum_count ts) c.requires.formed s (omega arith) l);
      stands = c.arrange.ensures.stands;
    }

pub returns-in_err-join_pairs : goal.returns-in_err-join_pairs
returns-in_err-join_pairs c =
    let i = c.loop-at.invariant in
    let ts = terms_in c.args.sum.now (forest c.args.pool.now) in
    let us = terms_in c.args.sum.now (forest c.loop-at.pool) in
    let r = c.from_residual-in_err-join_pairs.result in
    let fault = c.in_err-join_pairs.field-0.0 in
    let refused = c.from_residual-in_err-join_pairs.ensures.0 in
    let same = c.from_residual-in_err-join_pairs.ensures.1 in
    let told = c.in_err-join_pairs.ensures in
    let free = changes_free c.requires.stands i.stands i.kept c.requires.sum i.changes in
    record {
      ok = none_kept r _ refused;
      stage = none_kept r _ refused;
      settled = none_kept r _ refused;
      rationals = λ q. absurd (folded_alone _ _ c.in-Some.at (i.folded q) c.in-Some.ensures.pair.pair);
      front = front_after_one behind_first i.front c.join_pairs.ensures.front;
      kept = none_kept r _ refused;
      faults = passed_on r fault (Faults c.args.pool.now c.join_pairs.new.pool) refused same (faults_after _ fault i.kept told.faults);
      caused = passed_on r fault (IsCaused c.join_pairs.new.pool) refused same told.caused;
      overflow = passed_named r fault _ (Overflows ts) same told.overflow (overflows_after i.stage.collects);
      bits = λ b. passed_on r fault (OfOverflow (λ o. ⊥)) refused same (told.bits (few_after i.stage.held b));
      room = λ gs s. passed_lacks r fault _ _ same (told.room gs (spans_collected gs ts us i.stage.collects s))
          (λ full l. fewer_lack gs _ (sum_count us) (1 + sum_count ts) (arranged_counts i.stage.collects c.requires.formed i.arranged) (omega (arith, l, free)));
      stands = c.join_pairs.ensures.stands;
    }

pub arrange-requires-in-Some : goal.arrange-requires-in-Some
arrange-requires-in-Some c =
    let j = c.in_ok-join_pairs.ensures in
    record { stands = j.stands; sum = j.ok.sum; formed = j.stage.formed; some = j.stage.some }

pub returns-in_err-arrange-2 : goal.returns-in_err-arrange-2
returns-in_err-arrange-2 c =
    let i = c.loop-at.invariant in
    let j = c.in_ok-join_pairs.ensures in
    let ts = terms_in c.args.sum.now (forest c.args.pool.now) in
    let vs = terms_in c.args.sum.now (forest c.join_pairs.new.pool) in
    let r = c.from_residual-in_err-arrange-2.result in
    let fault = c.in_err-arrange-2.field-0.0 in
    let refused = c.from_residual-in_err-arrange-2.ensures.0 in
    let same = c.from_residual-in_err-arrange-2.ensures.1 in
    let told = c.in_err-arrange-2.ensures in
    let kept = keeps_after _ _ _ i.kept j.kept in
    let collects = collects_then i.stage.collects j.stage.collects in
    let free = changes_free c.requires.stands j.stands kept c.requires.sum (changes_after i.changes j.ok) in
    let few = arranged_counts i.stage.collects c.requires.formed i.arranged in
    record {
      ok = none_kept r _ refused;
      stage = none_kept r _ refused;
      settled = none_kept r _ refused;
      rationals = λ q. absurd (folded_alone _ _ c.in-Some.at (i.folded q) c.in-Some.ensures.pair.pair);
      front = front_after_one behind_first (front_after_one behind_first i.front c.join_pairs.ensures.front) c.arrange-in-Some.ensures.front;
      kept = none_kept r _ refused;
      faults = passed_on r fault (Faults c.args.pool.now c.arrange-in-Some.new.pool) refused same (faults_after _ fault kept told.faults);
      caused = passed_on r fault (IsCaused c.arrange-in-Some.new.pool) refused same told.caused;
      overflow = passed_named r fault _ (Overflows ts) same told.overflow (overflows_after collects);
      bits = λ b. passed_on r fault (OfOverflow (λ o. ⊥)) refused same (told.bits (few_after j.stage.held (few_after i.stage.held b)));
      room = λ gs s.
          let spans = spans_collected gs ts vs collects s in
          passed_lacks r fault _ _ same (told.room gs spans)
          (λ full l. omega (arith, terms_lack gs vs (free_of c.join_pairs.new.pool) (1 + sum_count ts) j.stage.formed spans (omega (arith, few, j.counts)) l, free));
      stands = c.arrange-in-Some.ensures.stands;
    }
