use Rattle.sum_reduce.proofs.Shared.{◌<◌, ◌+◌, ◌≡◌, false, arith, count, IsPairAt, IsNextPair, NoPairBetween, widths, terms_in, is_loose, is_partner, nth, forest, keeps_after, behind_first}
use Rattle.sum_reduce.proofs.Shared.{front_after_one, passed_lacks, sum_count, passed_named, OfOverflow, Overflows, IsCaused, passed_on, faults_after, none_kept, Faults}
use Rattle.sum_reduce.proofs.{Results.{match_option_given}, Stages.{stage_after}, Sums.{changes_after}, CollectedSpans.{spans_collected}, Rooms.{fewer_lack}, SumBytes.{changes_free}}
use Rattle.sum_reduce.proofs.{Hindered.{overflows_after}, Held.{few_after}}
use Rattle.sum_reduce.proofs.arranging.join_pairs.Goals as goal

pub loop-next-preserved : goal.loop-next-preserved
loop-next-preserved c =
    let i = c.loop-next.invariant in
    let j = c.in_ok-join_terms.ensures in
    let p = c.pair_behind-next.ensures in
    let us = terms_in c.args.sum.now (forest c.join_terms.new.pool) in
    let fewer : widths us < widths (terms_in c.args.sum.now (forest c.args.pool.now)) = omega (arith, j.fewer, i.stage.width) in
    record {
      changes = changes_after i.changes j.ok;
      stage = stage_after i.stage j.stage;
      fewer =
          match_option_given (is_loose (nth c.in-Some.at us) ≡ false → NoPairBetween is_partner (c.in-Some.at + 1) (count us) us) _ (λ n. IsNextPair is_partner (c.in-Some.at + 1) n us)
          (λ n. IsPairAt is_partner n us) c.pair_behind-next.result fewer (λ n x. x.pair) p.pair;
      counts = omega (arith, i.counts, j.counts);
      flat = p.flat;
      fits = p.fits;
      front = front_after_one behind_first i.front c.join_terms.ensures.front;
      kept = keeps_after _ _ _ i.kept j.kept;
      stands = j.stands;
    }

pub returns-in_err-join_terms : goal.returns-in_err-join_terms
returns-in_err-join_terms c =
    let i = c.loop-next.invariant in
    let ts = terms_in c.args.sum.now (forest c.args.pool.now) in
    let us = terms_in c.args.sum.now (forest c.loop-next.pool) in
    let r = c.from_residual.result in
    let fault = c.in_err-join_terms.field-0.0 in
    let refused = c.from_residual.ensures.0 in
    let same = c.from_residual.ensures.1 in
    let told = c.in_err-join_terms.ensures in
    let free = changes_free c.requires.stands i.stands i.kept c.requires.sum i.changes in
    record {
      ok = none_kept r _ refused;
      stage = none_kept r _ refused;
      fewer = none_kept r _ refused;
      counts = none_kept r _ refused;
      front = front_after_one behind_first i.front c.join_terms.ensures.front;
      kept = none_kept r _ refused;
      faults = passed_on r fault (Faults c.args.pool.now c.join_terms.new.pool) refused same (faults_after _ fault i.kept told.faults);
      caused = passed_on r fault (IsCaused c.join_terms.new.pool) refused same told.caused;
      overflow = passed_named r fault _ (Overflows ts) same told.overflow (overflows_after i.stage.collects);
      bits = λ b. passed_on r fault (OfOverflow (λ o. ⊥)) refused same (told.bits (few_after i.stage.held b));
      room = λ gs s. passed_lacks r fault _ _ same (told.room gs (spans_collected gs ts us i.stage.collects s))
          (λ full l. fewer_lack gs _ (sum_count us) (sum_count ts) (omega (arith, i.counts)) (omega (arith, l, free)));
      stands = c.join_terms.ensures.stands;
    }
