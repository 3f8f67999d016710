use Rattle.calc_session.proofs.Shared.{◌++◌, ◌∷◌, [], ap, subst, AppendsPart, Seen}
use Rattle.std.proofs.Common.{ℕ, List, OnErr}
use Rattle.calc_session.proofs.session.Session.print.Goals as goal

pub returns-clause-part : goal.returns-clause-part
returns-clause-part g c =
    subst (λ (bytes : List ℕ). OnErr c.write_line.result (AppendsPart (g.K.Sink.taken c.args.sink.now) (g.K.Sink.taken c.write_line.new.sink) bytes))
    (ap (λ (o : Seen). o.text ++ 10 ∷ []) c.self.view_is) c.write_line.ensures.part
