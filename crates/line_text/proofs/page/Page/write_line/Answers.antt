use Rattle.line_text.proofs.Shared.{◌≡◌, ◌++◌, ◌∷◌, [], ℕ, List, arith, subst, OnErr, AppendsPart}
use Rattle.line_text.proofs.page.Page.write_line.Goals as goal

pub returns-clause-part : goal.returns-clause-part
returns-clause-part g c =
    let line : c.as_slice.result.now ≡ c.args.self.now.bytes ++ 10 ∷ [] = grind arith in
    subst (λ (bytes : List ℕ). OnErr c.write_all-written.result (AppendsPart (g.K.Sink.taken c.args.sink.now) (g.K.Sink.taken c.write_all-written.new.sink) bytes)) line c.write_all-written.ensures.part
