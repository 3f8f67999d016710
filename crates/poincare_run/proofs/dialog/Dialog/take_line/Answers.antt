use Rattle.poincare_run.proofs.{Shared.{refl}, StepLemmas.{takes}}
use Rattle.poincare_run.proofs.dialog.Dialog.take_line.Goals as goal

pub returns-clause-takes : goal.returns-clause-takes
returns-clause-takes g c = λ bytes h. takes c.args.self.now.line bytes _ _ _ _ _ h (rw c.as_slice.ensures.value at c.line-answer.ensures.step) c.sweep.ensures refl
