use Rattle.power_reduce.proofs.{Shared.{tree_of, behind_first, front_same, front_end, front_without, gives, represents_handed}, Cases.{kept_power_answer}}
use Rattle.power_reduce.proofs.step.kept_power.Goals as goal

pub returns-clause-step : goal.returns-clause-step
returns-clause-step c = (
  c.requires.kept,
  gives c.move_last.ensures.last (represents_handed c.requires.handed) (kept_power_answer (tree_of c.args.power c.args.pool.now) c.requires.sides c.requires.exponent c.requires.number c.requires.kept),
)

pub returns-clause-front : goal.returns-clause-front
returns-clause-front c = front_end c.move_last.ensures.last (front_without behind_first front_same)
