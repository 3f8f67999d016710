use Rattle.poincare_run.proofs.{Shared.{◌≡◌, ◌∙◌, take, length, refl, arith, length-take-le, stops_later}, EndLemmas.{begins, reads_on, write_fails, ends, end_fails}}
use Rattle.poincare_run.proofs.dialog.Dialog.serve.Goals as goal

pub loop-left-init : goal.loop-left-init
loop-left-init g c = record { under_way = begins _ _ _ c.requires.1.1.1.1.0; reads_calm = refl; writes_calm = refl }

-- the source failed
pub returns-in_default-clause-reads : goal.returns-in_default-clause-reads
returns-in_default-clause-reads g c = record { last = c.loop-left.source; calm = c.loop-left.invariant.reads_calm; kept = c.in_default.ensures.kept; once = c.in_default.ensures.counted }

pub returns-in-Ok-finish-clause-ends : goal.returns-in-Ok-finish-clause-ends
returns-in-Ok-finish-clause-ends g c =
    ends _ _ _ _ _ _ _ c.loop-left.invariant.under_way _ _ (omega arith) (rw c.if-count-eq0.true at c.in-Ok.ensures.given) (c.in-Ok.ensures.end c.if-count-eq0.true) c.in-Ok-finish.ensures.ok

pub returns-in-Err-clause-ends : goal.returns-in-Err-clause-ends
returns-in-Err-clause-ends g c = end_fails _ _ _ _ _ _ _ c.loop-left.invariant.under_way _ _ (rw c.if-count-eq0.true at c.in-Ok.ensures.given) (c.in-Ok.ensures.end c.if-count-eq0.true) c.in-Err.ensures.err

pub returns-in-Err-clause-writes : goal.returns-in-Err-clause-writes
returns-in-Err-clause-writes g c = stops_later _ _ _ _ _ c.loop-left.invariant.writes_calm c.in-Err.ensures.stops

pub returns-in_default-answer-clause-ends : goal.returns-in_default-answer-clause-ends
returns-in_default-answer-clause-ends g c =
    let given = take c.in-Ok.count c.read_piece.new.piece in
    let many : length given ≡ c.in-Ok.count = length-take-le c.in-Ok.count c.read_piece.new.piece c.in-Ok.ensures.bound.1 in
    write_fails _ _ _ _ _ _ _ c.loop-left.invariant.under_way _ _ given (omega (arith, c.in-Ok.ensures.bound.0)) c.in-Ok.ensures.given c.in_default-answer.ensures.err

pub returns-in_default-answer-clause-writes : goal.returns-in_default-answer-clause-writes
returns-in_default-answer-clause-writes g c = stops_later _ _ _ _ _ c.loop-left.invariant.writes_calm c.in_default-answer.ensures.stops

pub loop-left-preserved : goal.loop-left-preserved
loop-left-preserved g c = record {
  under_way = reads_on _ _ _ _ _ _ _ c.loop-left.invariant.under_way _ _ (take c.in-Ok.count c.read_piece.new.piece) c.in-Ok.count _ c.in-Ok.ensures.bound.0
      (length-take-le c.in-Ok.count c.read_piece.new.piece c.in-Ok.ensures.bound.1) c.in-Ok.ensures.given c.in-Ok-answer.ensures.ok;
  reads_calm = c.in-Ok.ensures.cause.calm ∙ c.loop-left.invariant.reads_calm;
  writes_calm = c.in-Ok-answer.ensures.cause.calm ∙ c.loop-left.invariant.writes_calm;
}
