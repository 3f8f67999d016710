use Rattle.poincare_run.proofs.{Shared.{[], sym, ap, subst, refl, Appends-nil, on_ok_weaker, on_err_weaker, Holds, Seen, Place, place_of}, PictureLemmas.{answers_so, fails_so, same_place}}
use Rattle.poincare_run.proofs.StepLemmas.{written_blank, written_drawn, written_shown, written_text}
use Rattle.poincare_run.proofs.dialog.Dialog.answer_line.Goals as goal

pub returns-in-Blank-clause-ok : goal.returns-in-Blank-clause-ok
returns-in-Blank-clause-ok g c = λ bytes h. let t = c.take_line.ensures.takes bytes h in
    answers_so _ _ bytes _ _ t _ _ _ (written_blank _ _ bytes _ _ t c.in-Blank.is) _ refl (Appends-nil _)

pub returns-in-Draw : goal.returns-in-Draw
returns-in-Draw g c = record {
  ok = on_ok_weaker c.draw.result (λ all bytes h. let t = c.take_line.ensures.takes bytes h in answers_so _ _ bytes _ _ t _ _ _ (written_drawn _ _ bytes _ _ t c.in-Draw.is) _ c.draw.ensures.place all) c.draw.ensures.ok;
  err = on_err_weaker c.draw.result (λ part bytes h. let t = c.take_line.ensures.takes bytes h in fails_so _ _ bytes _ _ t _ _ _ (written_drawn _ _ bytes _ _ t c.in-Draw.is) part) c.draw.ensures.err;
  stops = c.draw.ensures.stops;
  cleared = subst (λ l. Holds l []) (sym (ap (λ (p : Place). p.line) c.draw.ensures.place)) c.take_line.ensures.cleared;
  cause = c.draw.ensures.cause;
}

pub returns-in-Shown : goal.returns-in-Shown
returns-in-Shown g c = record {
  ok = on_ok_weaker c.show.result (λ all bytes h. let t = c.take_line.ensures.takes bytes h in answers_so _ _ bytes _ _ t _ _ _ (written_shown _ _ bytes _ _ t c.in-Shown.is) _ c.show.ensures.place all) c.show.ensures.ok;
  err = on_err_weaker c.show.result (λ part bytes h. let t = c.take_line.ensures.takes bytes h in fails_so _ _ bytes _ _ t _ _ _ (written_shown _ _ bytes _ _ t c.in-Shown.is) part) c.show.ensures.err;
  stops = c.show.ensures.stops;
  cleared = subst (λ l. Holds l []) (sym (ap (λ (p : Place). p.line) c.show.ensures.place)) c.take_line.ensures.cleared;
  cause = c.show.ensures.cause;
}

pub returns-in_default : goal.returns-in_default
returns-in_default g c =
    let same = same_place (place_of g.B.Breaker.state c.take_line.new.self) c.print.new.self.state (ap (λ (s : Seen). s.state) c.print.ensures.kept) in
    record {
      ok = on_ok_weaker c.print.result (λ all bytes h. let t = c.take_line.ensures.takes bytes h in
          answers_so _ _ bytes _ _ t _ _ _ (written_text _ _ bytes _ _ t c.in_default.not-Blank c.in_default.not-Draw c.in_default.not-Shown c.in_default.not-Stored) _ same all) c.print.ensures.appended;
      err = on_err_weaker c.print.result (λ part bytes h. let t = c.take_line.ensures.takes bytes h in
          fails_so _ _ bytes _ _ t _ _ _ (written_text _ _ bytes _ _ t c.in_default.not-Blank c.in_default.not-Draw c.in_default.not-Shown c.in_default.not-Stored) part) c.print.ensures.part;
      stops = c.print.ensures.stops;
      cleared = c.take_line.ensures.cleared;
      cause = c.print.ensures.cause;
    }
