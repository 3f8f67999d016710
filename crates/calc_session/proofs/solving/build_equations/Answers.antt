use Rattle.std.proofs.{Common.{◌∙◌, ◌+◌, ◌++◌, ℕ, List, [], ◌∷◌, get_or, sym, ap, subst}, lemmas.Grind.{take_at_read}}
use Rattle.calc_session.proofs.{Shared.{err_from_is_err_and, adds_more, EquationRange, fills, free_of, front_after, reason_of, refusal_in}, BuiltSides.{AreBuilt, built_more, built_none}}
use Rattle.calc_session.proofs.{BuiltSides.{entries_there, same_built, unmade_at_left, unmade_at_right}, EvaluationLemmas.{keeps_then}, PlacingLemmas.{front_of_all}}
use Rattle.calc_session.proofs.RangeLemmas.{pieces_behind, reads_at}
use Rattle.calc_session.proofs.solving.build_equations.Goals as goal

abbrev nowhere : EquationRange
nowhere = record { begin = 0; sign = 0; end = 0 }

pub loop-range-init : goal.loop-range-init
loop-range-init c =
    let q = c.args.equations.now in
    let p = c.args.pool.now in
    subst (λ (rs : List ℕ). AreBuilt c.args.table.now q.before q.text.now q.ranges.now p 0 p c.args.roots.now.left.items rs) (sym c.requires.none_right)
    (subst (λ (ls : List ℕ). AreBuilt c.args.table.now q.before q.text.now q.ranges.now p 0 p ls []) (sym c.requires.none_left) (built_none c.requires.stands c.requires.entries))

pub build_side-requires-clause-entries : goal.build_side-requires-clause-entries
build_side-requires-clause-entries c = entries_there c.requires.stands c.requires.entries c.loop-range.invariant.adds

pub build_side-requires-clause-reads : goal.build_side-requires-clause-reads
build_side-requires-clause-reads c =
    let q = c.args.equations.now in
    let (es, h) = c.requires.reads in
    let (e, r) = reads_at q.before q.text.now c.loop-range.range-index q.ranges.now nowhere es h c.loop-range-test.true in
    (e.left, r.left)

pub returns-in_err-root : goal.returns-in_err-root
returns-in_err-root c =
    let p = err_from_is_err_and c.from_residual.result c.from_residual.ensures.1 in
    let err = c.in_err-root.ensures in
    record {
      built = λ es h. rw p.1 tt;
      roots = rw p.1 tt;
      refused = λ es h.
          let q = c.args.equations.now in
          let at = c.loop-range.range-index in
          let next = pieces_behind q.before q.text.now at q.ranges.now nowhere c.loop-range-test.true in
          rw (p.1, p.2) (unmade_at_left c.requires.stands c.requires.entries c.loop-range.invariant (get_or q.ranges.now at nowhere) (reason_of c.in_err-root.field-0.0) es next h (λ f r. err.refused f.left r.left));
      kept = rw p.1 tt;
      counted = rw (p.1, p.2) (keeps_then (refusal_in (reason_of c.in_err-root.field-0.0)) c.args.pool.now c.loop-range.pool c.build_side.new.pool c.loop-range.invariant.adds.kept err.counted);
      no_breaker = rw (p.1, p.2) err.no_breaker;
      front = front_after (front_of_all c.loop-range.invariant.adds) err.front;
      stands = err.stands;
    }

pub build_side-requires-in-loop-range-clause-entries : goal.build_side-requires-in-loop-range-clause-entries
build_side-requires-in-loop-range-clause-entries c =
    let q = c.args.equations.now in
    let (es, h) = c.requires.reads in
    let (e, r) = reads_at q.before q.text.now c.loop-range.range-index q.ranges.now nowhere es h c.loop-range-test.true in
    entries_there c.requires.stands c.requires.entries (adds_more c.loop-range.invariant.adds (c.in_ok-root.ensures.built e.left r.left).adds)

pub build_side-requires-in-loop-range-clause-reads : goal.build_side-requires-in-loop-range-clause-reads
build_side-requires-in-loop-range-clause-reads c =
    let q = c.args.equations.now in
    let (es, h) = c.requires.reads in
    let (e, r) = reads_at q.before q.text.now c.loop-range.range-index q.ranges.now nowhere es h c.loop-range-test.true in
    (e.right, r.right)

pub returns-in_err-root-2 : goal.returns-in_err-root-2
returns-in_err-root-2 c =
    let p = err_from_is_err_and c.from_residual-in_err-root-2.result c.from_residual-in_err-root-2.ensures.1 in
    let err = c.in_err-root-2.ensures in
    record {
      built = λ es h. rw p.1 tt;
      roots = rw p.1 tt;
      refused = λ es h.
          let q = c.args.equations.now in
          let at = c.loop-range.range-index in
          let (e, r) = reads_at q.before q.text.now at q.ranges.now nowhere es h c.loop-range-test.true in
          let l = c.in_ok-root.ensures.built e.left r.left in
          let next = pieces_behind q.before q.text.now at q.ranges.now nowhere c.loop-range-test.true in
          rw (p.1, p.2) (unmade_at_right c.requires.stands c.requires.entries c.loop-range.invariant (get_or q.ranges.now at nowhere) c.in_ok-root.root l.built (reason_of c.in_err-root-2.field-0.0) es next h l.adds (λ f s.
          let m = c.in_ok-root.ensures.built f.left s.left in
          (m.is_made ∙ ap (fills (free_of c.build_side.new.pool)) (same_built m.adds l.adds), err.refused f.right s.right)));
      kept = rw p.1 tt;
      counted =
          let q = c.args.equations.now in
          let (es, h) = c.requires.reads in
          let (e, r) = reads_at q.before q.text.now c.loop-range.range-index q.ranges.now nowhere es h c.loop-range-test.true in
          let kept = (adds_more c.loop-range.invariant.adds (c.in_ok-root.ensures.built e.left r.left).adds).kept in
          rw (p.1, p.2) (keeps_then (refusal_in (reason_of c.in_err-root-2.field-0.0)) c.args.pool.now c.build_side.new.pool c.build_side-in-loop-range.new.pool kept err.counted);
      no_breaker = rw (p.1, p.2) err.no_breaker;
      front = front_after (front_after (front_of_all c.loop-range.invariant.adds) c.in_ok-root.ensures.front) err.front;
      stands = err.stands;
    }

pub loop-range-preserved : goal.loop-range-preserved
loop-range-preserved c =
    let q = c.args.equations.now in
    let at = c.loop-range.range-index in
    let end = c.build_side-in-loop-range.new.pool in
    let (es, h) = c.requires.reads in
    let (e, r) = reads_at q.before q.text.now at q.ranges.now nowhere es h c.loop-range-test.true in
    let l = c.in_ok-root.ensures.built e.left r.left in
    let m = c.in_ok-root-2.ensures.built e.right r.right in
    subst (λ (rs : List ℕ). AreBuilt c.args.table.now q.before q.text.now q.ranges.now c.args.pool.now (at + 1) end c.push.new.self.items rs) (sym c.push-in-loop-range.ensures.items)
    (subst (λ (ls : List ℕ). AreBuilt c.args.table.now q.before q.text.now q.ranges.now c.args.pool.now (at + 1) end ls (c.loop-range.roots.right.items ++ c.in_ok-root-2.root ∷ [])) (sym c.push.ensures.items)
    (built_more c.requires.stands c.requires.entries c.loop-range.invariant (get_or q.ranges.now at nowhere) c.in_ok-root.root c.in_ok-root-2.root l.built m.built (take_at_read q.ranges.now at nowhere c.loop-range-test.true).1 l.adds m.adds (λ f s.
    let x = c.in_ok-root.ensures.built f.left s.left in
    let y = c.in_ok-root-2.ensures.built f.right s.right in
    (x.is_made ∙ ap (fills (free_of c.build_side.new.pool)) (same_built x.adds l.adds), y.is_made ∙ ap (fills (free_of end)) (same_built y.adds m.adds)))))

pub returns-clause-front : goal.returns-clause-front
returns-clause-front c = front_of_all c.loop-range.invariant.adds
