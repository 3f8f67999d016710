use Rattle.std.proofs.Common.{◌∙◌, ◌*◌, ◌+◌, None, inl, refl, sym, ap, subst, arith}
use Rattle.calc_session.proofs.Shared.{TripsRose, IsWritable, states, tokens_of, free_of, tree_of, forest, given_rest, gives_as, held_entries, ComesTo, CountsRefusal, reason_of, refusal_of_evaluation}
use Rattle.calc_session.proofs.Shared.{ExpressionBecomes, IsReplyToExpression, is_no_expression, is_read, IsCountedBut, IsKnownOf, is_not_made, refusal_in, reported, state_in}
use Rattle.calc_session.proofs.{CommandLemmas.{calm_told, refusal_uninterrupted}, CountingLemmas.{counted_still, counted_then, counted_there, none_known, none_made, none_read}}
use Rattle.calc_session.proofs.{EvaluationLemmas.{front_over, none_rose, size_kept}, PoolLemmas.{kept_still, old_below, still_counted}, TellingLemmas.{comes_calculated, has_face, same_again, told_as}}
use Rattle.calc_session.proofs.{TellingLemmas.{told_interruption, told_lack}, parts.Parts.calculate.Goals.{After-run-evaluation}}
use Rattle.calc_session.specs.Arguments.{IsNoExpression, bytes_before}
use Rattle.calc_session.specs.declared.answers.LineAnswer.TheVariants as answer
use Rattle.calc_session.specs.declared.answers.Refusal.TheVariants as refusal
use Rattle.calc_session.proofs.parts.Parts.calculate.Goals as goal

pub build_and_fill-requires-clause-entries : goal.build_and_fill-requires-clause-entries
build_and_fill-requires-clause-entries g c = held_entries c.args.self.now.table (forest c.args.self.now.work.pool) c.requires.kept.held

pub build_and_fill-requires-clause-line : goal.build_and_fill-requires-clause-line
build_and_fill-requires-clause-line g c = let (t, r) = c.in-Ok.ensures.tree in (t, (None, r.line-is))

pub run-evaluation-requires-clause-ready : goal.run-evaluation-requires-clause-ready
run-evaluation-requires-clause-ready g c = record { stands = c.build_and_fill.ensures.stands; lists = omega (arith, c.requires.kept.ready.lists, c.in-Ok-build_and_fill.ensures.kept.size) }

pub run-evaluation-requires-clause-last : goal.run-evaluation-requires-clause-last
run-evaluation-requires-clause-last g c = gives_as c.in-Ok-build_and_fill.ensures.ok (sym (given_rest c.in-Ok-build_and_fill.ensures.ok)) (λ u x. tt)

-- what is calculated of the expression
comes : (g : _) (c : After-run-evaluation g) → ComesTo (λ r. IsReplyToExpression (state_in c.args.self.now) (states g.B.Breaker.state c.args.watch.now) (states g.B.Breaker.state c.run-evaluation.new.watch) (bytes_before c.args.line.now c.args.expression.now) c.args.expression.now
    (g.C.Calculation.rule c.args.calculation.now (free_of c.args.self.now.work.pool) (states g.B.Breaker.state c.args.watch.now) (states g.B.Breaker.state c.run-evaluation.new.watch)) (reported r)) IsWritable None (forest c.args.self.now.work.pool) (forest c.run-evaluation.new.work.pool) c.run-evaluation.result
comes g c =
    let (t, reads) = c.in-Ok.ensures.tree in
    comes_calculated (g.C.Calculation.rule c.args.calculation.now) (states g.B.Breaker.state c.args.watch.now) (states g.B.Breaker.state c.run-evaluation.new.watch) c.args.self.now.table (bytes_before c.args.line.now c.args.expression.now) c.args.expression.now c.args.self.now.work.pool c.build_and_fill.new.pool (forest c.run-evaluation.new.work.pool) c.run-evaluation.result
    c.requires.kept.ready.stands c.build_and_fill.ensures.stands c.in-Ok-build_and_fill.ensures.kept.size c.in-Ok-build_and_fill.ensures.ok reads (c.in-Ok-build_and_fill.ensures.made t (None, reads.line-is)) c.run-evaluation.ensures.reply

pub tell-answer-requires-clause-face : goal.tell-answer-requires-clause-face
tell-answer-requires-clause-face g c =
    has_face (λ r. IsReplyToExpression (state_in c.args.self.now) (states g.B.Breaker.state c.args.watch.now) (states g.B.Breaker.state c.run-evaluation.new.watch) (bytes_before c.args.line.now c.args.expression.now) c.args.expression.now
    (g.C.Calculation.rule c.args.calculation.now (free_of c.args.self.now.work.pool) (states g.B.Breaker.state c.args.watch.now) (states g.B.Breaker.state c.run-evaluation.new.watch)) (reported r)) (forest c.args.self.now.work.pool) (forest c.run-evaluation.new.work.pool) c.run-evaluation.result (comes g (goal.at.tell-answer-requires-clause-face g c).After-run-evaluation)

pub tell-answer-requires-clause-room : goal.tell-answer-requires-clause-room
tell-answer-requires-clause-room g c = c.requires.kept.room ∙ ap (λ n. 3 * n + 8448) (sym (c.run-evaluation.ensures.size ∙ c.in-Ok-build_and_fill.ensures.kept.size))

pub roll_back-requires-clause-below : goal.roll_back-requires-clause-below
roll_back-requires-clause-below g c = (forest c.args.self.now.work.pool, old_below (c.open_mark-mark.ensures.trees c.requires.kept.ready.stands) (front_over c.in-Ok-build_and_fill.ensures.ok c.run-evaluation.ensures.front))

pub roll_back-requires-in-Err-build_and_fill-clause-below : goal.roll_back-requires-in-Err-build_and_fill-clause-below
roll_back-requires-in-Err-build_and_fill-clause-below g c = (forest c.args.self.now.work.pool, old_below (c.open_mark-mark.ensures.trees c.requires.kept.ready.stands) c.build_and_fill.ensures.front)

pub returns-in-Ok-build_and_fill : goal.returns-in-Ok-build_and_fill
returns-in-Ok-build_and_fill g c =
    let (t, reads) = c.in-Ok.ensures.tree in
    let p = c.args.self.now.work.pool in
    let s = state_in c.args.self.now in
    let before = states g.B.Breaker.state c.args.watch.now in
    let after = states g.B.Breaker.state c.run-evaluation.new.watch in
    let e = c.run-evaluation.result in
    let filled = c.in-Ok-build_and_fill.ensures in
    let mid = c.run-evaluation.new.work.pool in
    let new = c.roll_back.new.pool in
    let known = g.C.Calculation.known c.args.calculation.now in
    let size = c.roll_back.ensures.kept.size ∙ c.run-evaluation.ensures.size ∙ filled.kept.size in
    let trees = c.roll_back.ensures.forest (forest p) (old_below (c.open_mark-mark.ensures.trees c.requires.kept.ready.stands) (front_over filled.ok c.run-evaluation.ensures.front)) in
    let b : ExpressionBecomes s c.args.expression.now (tree_of c.in-Ok-build_and_fill.tree c.build_and_fill.new.pool) = record { tokens = tokens_of c.read_expression.new.parser; tree = t; reads = reads; left = free_of c.build_and_fill.new.pool; is_made = filled.made t (None, reads.line-is) } in
    record {
      told = told_as (IsReplyToExpression s before after (bytes_before c.args.line.now c.args.expression.now) c.args.expression.now (g.C.Calculation.rule c.args.calculation.now (free_of p) before after)) mid (forest p) e c.tell-answer.result c.tell-answer.new.text.bytes
          (comes g (goal.at.returns-in-Ok-build_and_fill g c).After-run-evaluation) c.tell-answer.ensures.told;
      interrupted = λ place. told_interruption mid e c.tell-answer.result c.tell-answer.new.text.bytes (refusal.Interrupted place) (TripsRose before after place) c.tell-answer.ensures.told (c.run-evaluation.ensures.interrupted place);
      counted = subst (IsCountedBut (IsKnownOf known s c.args.expression.now) (λ r. CountsRefusal r p new)) (sym (told_lack mid e c.tell-answer.result c.tell-answer.new.text.bytes c.tell-answer.ensures.told))
          (counted_there p new s c.args.expression.now (tree_of c.in-Ok-build_and_fill.tree c.build_and_fill.new.pool) b (refusal_of_evaluation e)
          (counted_still p mid new (refusal_of_evaluation e) c.roll_back.ensures.kept (counted_then p c.build_and_fill.new.pool mid (refusal_of_evaluation e) filled.kept c.run-evaluation.ensures.counted)));
      same = same_again p new c.args.self.now.table c.requires.kept.ready.stands c.roll_back.ensures.stands size trees;
      kept = kept_still c.args.self.now _ c.requires.kept c.roll_back.ensures.stands size trees (omega (arith, c.run-evaluation.ensures.ready.lists, c.roll_back.ensures.kept.size)) refl c.tell-answer.ensures.capacity refl;
    }

pub returns-in-Err-build_and_fill : goal.returns-in-Err-build_and_fill
returns-in-Err-build_and_fill g c =
    let (t, reads) = c.in-Ok.ensures.tree in
    let p = c.args.self.now.work.pool in
    let s = state_in c.args.self.now in
    let before = states g.B.Breaker.state c.args.watch.now in
    let r = c.in-Err-build_and_fill.refusal in
    let unmade = c.in-Err-build_and_fill.ensures in
    let back = c.roll_back-in-Err-build_and_fill in
    let size = back.ensures.kept.size ∙ size_kept (refusal_in (reason_of r)) p c.build_and_fill.new.pool unmade.counted in
    let trees = back.ensures.forest (forest p) (old_below (c.open_mark-mark.ensures.trees c.requires.kept.ready.stands) c.build_and_fill.ensures.front) in
    record {
      told = (is_read reads (is_not_made (unmade.refused t (None, reads.line-is)) refl), c.requires.empty);
      interrupted = calm_told (answer.Refused r) before before (refusal_uninterrupted r unmade.no_breaker) (none_rose before);
      counted = inl (none_known (refusal_in (reason_of r)) (none_made s c.args.expression.now (tokens_of c.read_expression.new.parser) t (reason_of r) reads (unmade.refused t (None, reads.line-is))), still_counted (refusal_in (reason_of r)) p c.build_and_fill.new.pool back.new.pool unmade.counted back.ensures.kept);
      same = same_again p back.new.pool c.args.self.now.table c.requires.kept.ready.stands back.ensures.stands size trees;
      kept = kept_still c.args.self.now _ c.requires.kept back.ensures.stands size trees (omega (arith, c.requires.kept.ready.lists, size)) refl refl refl;
    }

pub returns-in-Err : goal.returns-in-Err
returns-in-Err g c =
    let before = states g.B.Breaker.state c.args.watch.now in
    let r = c.in-Err.refusal in
    record {
      told = (is_no_expression (subst (λ n. IsNoExpression n c.args.expression.now (reason_of r)) c.bytes_before-before.ensures c.in-Err.ensures.refused) refl, c.requires.empty);
      interrupted = calm_told (answer.Refused r) before before (refusal_uninterrupted r c.in-Err.ensures.no_breaker) (none_rose before);
      counted = inl (none_known (refusal_in (reason_of r)) (none_read (state_in c.args.self.now) c.args.expression.now c.bytes_before-before.result (reason_of r) c.in-Err.ensures.refused), subst (λ x. CountsRefusal x c.args.self.now.work.pool c.args.self.now.work.pool) (sym c.in-Err.ensures.no_pool) (record { size = refl; refusals = refl; last_refused = refl }));
      same = refl;
      kept = record { ready = c.requires.kept.ready; held = c.requires.kept.held; room = c.requires.kept.room; served = c.requires.kept.served };
    }
