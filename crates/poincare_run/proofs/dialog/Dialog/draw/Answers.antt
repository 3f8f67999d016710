use Rattle.poincare_run.proofs.{Shared.{subst, FailsToDraw, rows_in, DrawFault}, PictureLemmas.{drawn_whole, drawn_part}}
use Rattle.poincare_run.proofs.dialog.Dialog.draw.Goals as goal

pub returns-in-Ok-clause-ok : goal.returns-in-Ok-clause-ok
returns-in-Ok-clause-ok g c = drawn_whole c.args.self.now.session.state _ _ c.in-Ok.ensures.drawn

pub returns-in-Write-clause-err : goal.returns-in-Write-clause-err
returns-in-Write-clause-err g c =
    drawn_part c.args.self.now.session.state _ _
    (subst (λ (f : DrawFault). FailsToDraw (rows_in c.args.self.now.session.state) (g.K.Sink.taken c.args.sink.now) (g.K.Sink.taken c.draw.new.sink) f) c.in-Write.is c.in-Err.ensures.fails)
