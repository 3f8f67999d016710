use Rattle.sum_reduce.proofs.Shared.{◌∙◌, sym, subst, refl, ap, arith, ◌^◌, length, tree_of, forest, gives_as, given_told, IsWrittenSum, IsSumAnswer, IsCollected, terms_in, size, passed_lacks}
use Rattle.sum_reduce.proofs.Shared.{sum_whole, counts_of_all, KeepsSumBounds, reduced_formed, false≢true, ◌≡◌, false, passed_result, passed_named, OfOverflow, Overflows, AnswersRationals}
use Rattle.sum_reduce.proofs.Shared.{plain_value, IsCaused, has_undef, front_end, front_without, behind_first, passed_on, none_given, none_kept, Faults}
use Rattle.sum_reduce.proofs.{Collected.{settled_collected, settled_written}, Rationals.{rationals_answer, rationals_fault, undef_rationals}, Settled.{undef_answer, settled_answer}}
use Rattle.sum_reduce.proofs.{Sums.{changes_rest}, CollectedCounts.{collected_counts, written_counted}, CollectedSpans.{collected_powers, spans_collected, spans_written, spans_terms}}
use Rattle.sum_reduce.proofs.{Rooms.{sum_lacks}, Held.{holds}, HeldTerms.{tree_held}, CollectedExponents.{exponents_collected, written_counts, undef_bounds}}
use Rattle.sum_reduce.proofs.reducing.reduce_sum.Goals as goal

pub returns-then-has_undef_term-clause-ok : goal.returns-then-has_undef_term-clause-ok
returns-then-has_undef_term-clause-ok c =
    let ts = terms_in c.args.sum (forest c.args.pool.now) in
    gives_as c.undefined.ensures.gives refl (λ t e. subst (IsSumAnswer ts) (sym e) (undef_answer ts (sym c.has_undef_term.ensures ∙ c.if-has_undef_term.true)))

pub returns-clause-ok : goal.returns-clause-ok
returns-clause-ok c =
    let ts = terms_in c.args.sum (forest c.args.pool.now) in
    let us = terms_in c.args.sum (forest c.settle.new.pool) in
    let s = c.in_ok-settle.ensures in
    gives_as c.written.ensures.tree (changes_rest s.ok) (λ t e. subst (IsSumAnswer ts) (sym e) (settled_answer ts us (sym c.has_undef_term.ensures ∙ c.if-has_undef_term.false) s.stage s.settled))

pub returns-clause-rationals : goal.returns-clause-rationals
returns-clause-rationals c =
    λ q. rationals_answer (tree_of c.args.sum c.args.pool.now) (tree_of c.written.result c.written.new.pool) (terms_in c.args.sum (forest c.settle.new.pool)) c.requires.sum
    (c.in_ok-settle.ensures.rationals q) (given_told c.written.ensures.tree)

pub returns-clause-collected : goal.returns-clause-collected
returns-clause-collected c = λ d.
    let s = c.in_ok-settle.ensures in
    subst (IsCollected (terms_in c.args.sum (forest c.args.pool.now))) (sym (given_told c.written.ensures.tree))
    (settled_collected _ (terms_in c.args.sum (forest c.settle.new.pool)) s.stage s.settled)

pub returns-clause-written : goal.returns-clause-written
returns-clause-written c = λ d u.
    let s = c.in_ok-settle.ensures in
    subst (IsWrittenSum (terms_in c.args.sum (forest c.args.pool.now))) (sym (given_told c.written.ensures.tree))
    (settled_written _ (terms_in c.args.sum (forest c.settle.new.pool)) s.stage s.settled u)

pub returns-then-has_undef_term-clause-collected : goal.returns-then-has_undef_term-clause-collected
returns-then-has_undef_term-clause-collected c = λ d. absurd (false≢true (sym d ∙ sym c.has_undef_term.ensures ∙ c.if-has_undef_term.true))

pub returns-then-has_undef_term-clause-written : goal.returns-then-has_undef_term-clause-written
returns-then-has_undef_term-clause-written c = λ d u. absurd (false≢true (sym d ∙ sym c.has_undef_term.ensures ∙ c.if-has_undef_term.true))

pub returns-in_err-settle : goal.returns-in_err-settle
returns-in_err-settle c =
    let t = tree_of c.args.sum c.args.pool.now in
    let ts = terms_in c.args.sum (forest c.args.pool.now) in
    let us = terms_in c.args.sum (forest c.settle.new.pool) in
    let r = c.from_residual.result in
    let fault = c.in_err-settle.field-0.0 in
    let refused = c.from_residual.ensures.0 in
    let same = c.from_residual.ensures.1 in
    let told = c.in_err-settle.ensures in
    record {
      ok = none_given r _ refused;
      collected = λ d. none_given r _ refused;
      written = λ d u. none_given r _ refused;
      rationals = λ q. passed_result r fault (AnswersRationals (plain_value t) c.settle.new.pool) refused same (rationals_fault t us c.settle.new.pool fault c.requires.sum (told.rationals q));
      front = c.settle.ensures.front;
      kept = none_kept r _ refused;
      faults = passed_on r fault (Faults c.args.pool.now c.settle.new.pool) refused same told.faults;
      caused = passed_on r fault (IsCaused c.settle.new.pool) refused same told.caused;
      overflow = passed_on r fault (OfOverflow (Overflows ts)) refused same told.overflow;
      defined = passed_named r fault (Overflows ts) (λ o. has_undef ts ≡ false) same told.overflow (λ o h. sym c.has_undef_term.ensures ∙ c.if-has_undef_term.false);
      room = λ gs s. passed_lacks r fault _ _ same (told.room gs (spans_terms gs t c.requires.sum s))
          (λ full l. sum_lacks ts _ (2 ^ length gs) (omega (arith, l, ap size (sum_whole t c.requires.sum))));
      bounds = none_given r _ refused;
      bits = λ h l k f. passed_on r fault (OfOverflow (λ o. ⊥)) refused same (told.bits (record { high = h; low = l; held = k; few = f }));
      stands = c.settle.ensures.stands;
    }

pub returns-then-has_undef_term-clause-rationals : goal.returns-then-has_undef_term-clause-rationals
returns-then-has_undef_term-clause-rationals c = λ q. absurd (undef_rationals (terms_in c.args.sum (forest c.args.pool.now)) q (sym c.has_undef_term.ensures ∙ c.if-has_undef_term.true))

pub returns-clause-front : goal.returns-clause-front
returns-clause-front c = front_end c.written.ensures.tree.ends (front_without behind_first c.settle.ensures.front)

pub returns-then-has_undef_term-clause-bounds : goal.returns-then-has_undef_term-clause-bounds
returns-then-has_undef_term-clause-bounds c =
    undef_bounds (terms_in c.args.sum (forest c.args.pool.now)) _ (sym c.has_undef_term.ensures ∙ c.if-has_undef_term.true) (given_told c.undefined.ensures.gives)

pub returns-clause-bounds : goal.returns-clause-bounds
returns-clause-bounds c =
    let ts = terms_in c.args.sum (forest c.args.pool.now) in
    let us = terms_in c.args.sum (forest c.settle.new.pool) in
    let s = c.in_ok-settle.ensures in
    let formed = reduced_formed ts c.requires.reduced (sym c.has_undef_term.ensures ∙ c.if-has_undef_term.false) in
    subst (KeepsSumBounds ts) (sym (given_told c.written.ensures.tree)) (record {
      room = record {
        counts = omega (arith, written_counted us, collected_counts s.stage.collects formed);
        powers = collected_powers _ _ s.stage.collects;
        spanned = λ gs x. spans_written gs us (spans_collected gs _ us s.stage.collects x);
      };
      held = λ h l d k. tree_held s.settled.arranged s.stage.some (holds s.stage.held k);
      counts = λ h. written_counts us (counts_of_all ts) (exponents_collected s.stage.collects formed h);
    })
