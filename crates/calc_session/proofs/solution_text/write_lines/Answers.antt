use Rattle.std.proofs.Common.{◌≡◌, ◌<◌, ◌∙◌, [], None, Some, length, map, refl, sym, subst, ap, arith}
use Rattle.calc_session.proofs.{Shared.{err_from_is_err_and, CountsRefusal, after, form_room, free_of, length-map, name_of, Content, form_told, line_text, line_texts}, SolutionLemmas.{all_taken, line_there, lines_are, long_next, many_lines, told_next, true_alone}}
use Rattle.node_pool.specs.State.{State}
use Rattle.calc_session.proofs.solution_text.write_lines.Goals as goal

pub returns-then-is_empty : goal.returns-then-is_empty
returns-then-is_empty c =
    let none : length c.args.names.now ≡ 0 = grind (arith, c.if-is_empty.ensures) in
    record {
      told = true_alone c.args.names.now (map form_told c.args.lines.now) c.args.text.now c.push.new.self none c.requires.empty c.push.ensures;
      lacks = tt;
      counted = record { size = refl; refusals = refl; last_refused = refl };
      as_before = refl;
      capacity = ap (λ (x : Content). x.capacity) c.push.ensures;
      ready = c.requires.ready;
    }

pub returns-in_err-write_line : goal.returns-in_err-write_line
returns-in_err-write_line c =
    let p = err_from_is_err_and c.from_residual.result c.from_residual.ensures.1 in
    let err = c.in_err-write_line.ensures in
    let full = c.in_err-write_line.field-0.0 in
    let old = c.args.work.now.pool in
    let new = c.write_line.new.work.pool in
    let same = c.loop-at.invariant.same in
    record {
      told = rw p.1 tt;
      lacks = rw (p.1, p.2) (subst (λ (q : State). (full.free < full.needed) × (free_of q < form_room)) same err.lacks);
      counted = rw (p.1, p.2) (subst (λ (q : State). CountsRefusal (Some full) q new) same err.counted);
      as_before = rw (p.1, p.2) (subst (λ (q : State). new ≡ after (Some full) q.nodes q) same err.as_before);
      capacity = c.write_line.ensures.capacity ∙ ap (λ (x : Content). x.capacity) c.push-in-loop-at.ensures ∙ c.loop-at.invariant.capacity;
      ready = c.write_line.ensures.ready;
    }

pub loop-at-preserved : goal.loop-at-preserved
loop-at-preserved c =
    let xs = map name_of c.args.names.now in
    let t = line_text (map name_of c.args.names.now) (name_of c.index-names-at.result) (form_told c.index-lines-at.result) in
    let long = long_next t c.comma_before.result.now c.loop-at.text c.push-in-loop-at.new.self c.write_line.new.text c.loop-at.at c.push-in-loop-at.ensures c.comma_before.ensures in
    record {
      same = c.in_ok-write_line.ensures.as_before ∙ c.loop-at.invariant.same;
      told = told_next [] (line_texts xs (map form_told c.args.lines.now)) c.loop-at.at t c.comma_before.result.now c.loop-at.text c.push-in-loop-at.new.self c.write_line.new.text (omega (arith, c.loop-at-test.true, many_lines c.args.names.now c.args.lines.now c.requires.lines))
          (line_there c.args.names.now c.args.lines.now c.loop-at.at c.index-names-at.result c.index-lines-at.result c.loop-at-test.true c.requires.lines c.index-names-at.is c.index-lines-at.is) c.loop-at.invariant.told c.push-in-loop-at.ensures c.comma_before.ensures c.in_ok-write_line.ensures.told;
      short = omega (arith, long, c.in_ok-write_line.ensures.short, c.loop-at.invariant.short);
      capacity = c.in_ok-write_line.ensures.capacity ∙ ap (λ (x : Content). x.capacity) c.push-in-loop-at.ensures ∙ c.loop-at.invariant.capacity;
      ready = c.write_line.ensures.ready;
    }

pub returns : goal.returns
returns c =
    let xs = map name_of c.args.names.now in
    let some : 0 < length c.args.names.now = grind (arith, c.if-is_empty.ensures) in
    let so_far = c.loop-at.invariant in
    record {
      told =
          so_far.told ∙ all_taken c.loop-at.at (line_texts xs (map form_told c.args.lines.now)) (omega (arith, c.loop-at-test.false, many_lines c.args.names.now c.args.lines.now c.requires.lines))
          ∙ sym (lines_are xs (map form_told c.args.lines.now) (omega (arith, some, length-map c.args.names.now name_of)));
      lacks = tt;
      counted = subst (λ (q : State). CountsRefusal None c.args.work.now.pool q) (sym so_far.same) (record { size = refl; refusals = refl; last_refused = refl });
      as_before = so_far.same;
      capacity = so_far.capacity;
      ready = so_far.ready;
    }
