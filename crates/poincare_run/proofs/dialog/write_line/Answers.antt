use Rattle.poincare_run.proofs.Shared.{◌∷◌, [], on_err_weaker, AppendsPart-after, stops_later}
use Rattle.poincare_run.proofs.dialog.write_line.Goals as goal

pub returns-clause-part : goal.returns-clause-part
returns-clause-part g c = on_err_weaker c.write_all-2.result (AppendsPart-after _ _ _ c.args.text.now (10 ∷ []) c.in_ok-write_all.ensures.appended) c.write_all-2.ensures.part

pub returns-clause-stops : goal.returns-clause-stops
returns-clause-stops g c = on_err_weaker c.write_all-2.result (stops_later _ _ _ _ _ c.in_ok-write_all.ensures.cause.calm) c.write_all-2.ensures.stops
