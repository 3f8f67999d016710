use Rattle.poincare_run.proofs.{Shared.{◌≡◌, ◌++◌, ◌∷◌, [], List, ℕ, ap, sym, subst, on_err_weaker, AppendsPart, AppendsPart-after, Seen, picture_text}, PictureLemmas.{picture_wanted}}
use Rattle.poincare_run.proofs.dialog.Dialog.show.Goals as goal

pub returns-then-self-clause-err : goal.returns-then-self-clause-err
returns-then-self-clause-err g c = on_err_weaker c.draw.result (λ part.
    let s = c.args.self.now.session in
    let a = g.K.Sink.taken c.args.sink.now in
    let b = g.K.Sink.taken c.print.new.sink in
    let d = g.K.Sink.taken c.draw.new.sink in
    let same : picture_text c.print.new.self.state ≡ picture_text s.state = ap (λ (t : Seen). picture_text t.state) c.print.ensures.kept in
    subst (λ (x : List ℕ). AppendsPart a d ((s.text ++ 10 ∷ []) ++ x)) (sym (picture_wanted c.args.self.now.draws s.state c.if-self.true))
    (AppendsPart-after a b d (s.text ++ 10 ∷ []) (picture_text s.state) c.in_ok-print.ensures.appended (subst (AppendsPart b d) same part))) c.draw.ensures.err
