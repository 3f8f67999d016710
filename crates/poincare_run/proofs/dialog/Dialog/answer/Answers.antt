use Rattle.std.proofs.Common.{◌≡◌, ◌∙◌, ◌+◌, ◌<◌, ◌++◌, ◌∷◌, [], length, take, drop, get_or, arith, refl, sym, ap, subst}
use Rattle.poincare_run.proofs.{Shared.{take_all, take_more, drop_more, take-append-drop, err_from_is_err_and, stops_later, Goes, place_of}, StepLemmas.{goes_nowhere, goes_on, breaks_after}}
use Rattle.poincare_run.proofs.dialog.Dialog.answer.Goals as goal

pub loop-byte-init : goal.loop-byte-init
loop-byte-init g c = record { calm = refl; goes = λ start before out h. goes_nowhere start before out _ _ h }

pub loop-byte-preserved : goal.loop-byte-preserved
loop-byte-preserved g c = record {
  calm = c.in_ok-answer_byte.ensures.cause.calm ∙ c.loop-byte.invariant.calm;
  goes = λ start before out h.
      let within : c.loop-byte.byte-index < length c.args.bytes.now = omega arith in
      rw (take_more c.args.bytes.now c.loop-byte.byte-index 0 within)
      (goes_on start before _ out _ _ _ _ (c.loop-byte.invariant.goes start before out h) (get_or c.args.bytes.now c.loop-byte.byte-index 0 ∷ []) _ c.in_ok-answer_byte.ensures.ok);
}

pub returns-in_err-answer_byte-clause-err : goal.returns-in_err-answer_byte-clause-err
returns-in_err-answer_byte-clause-err g c =
    let p = err_from_is_err_and c.from_residual.result c.from_residual.ensures.1 in
    rw (p.1)
    (λ start before out h.
    let bytes = c.args.bytes.now in
    let i = c.loop-byte.byte-index in
    let within : i < length bytes = omega arith in
    let whole : take i bytes ++ (get_or bytes i 0 ∷ [] ++ drop (i + 1) bytes) ≡ bytes = ap (λ rest. take i bytes ++ rest) (sym (drop_more bytes i 0 within)) ∙ take-append-drop i bytes in
    breaks_after start before (take i bytes) out _ _ _ _ (c.loop-byte.invariant.goes start before out h) (get_or bytes i 0 ∷ []) (drop (i + 1) bytes) bytes whole c.in_err-answer_byte.ensures.err)

pub returns-in_err-answer_byte-clause-stops : goal.returns-in_err-answer_byte-clause-stops
returns-in_err-answer_byte-clause-stops g c =
    let p = err_from_is_err_and c.from_residual.result c.from_residual.ensures.1 in
    rw (p.1) (stops_later _ _ _ _ _ c.loop-byte.invariant.calm c.in_err-answer_byte.ensures.stops)

pub returns-clause-ok : goal.returns-clause-ok
returns-clause-ok g c = λ start before out h.
    let bytes = c.args.bytes.now in
    let all : take c.loop-byte.byte-index bytes ≡ bytes = take_all c.loop-byte.byte-index bytes (omega arith) in
    subst (λ b. Goes start before b out (place_of g.B.Breaker.state c.loop-byte.self) (g.K.Sink.taken c.args.sink.now) (g.K.Sink.taken c.loop-byte.sink)) all (c.loop-byte.invariant.goes start before out h)
