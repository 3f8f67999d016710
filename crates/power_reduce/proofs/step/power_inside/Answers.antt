use Rattle.power_reduce.proofs.{Shared.{sym, ap, ◌∙◌, root_kind, tree_of, base_in, exponent_in}, Rooms.{no_refusal}, Cases.{other_kept}}
use Rattle.power_reduce.proofs.step.power_inside.Goals as goal

pub kept_power-requires-clause-kept : goal.kept_power-requires-clause-kept
kept_power-requires-clause-kept c = other_kept (base_in (tree_of c.args.power c.args.pool.now)) (exponent_in (tree_of c.args.power c.args.pool.now)) c.requires.inside (λ e. c.in_default.not-Pow ((c.kind.ensures.plain c.base_id.ensures.expression ∙ ap root_kind c.base_id.ensures.tree) ∙ sym e)) (λ e. c.in_default.not-Mult ((c.kind.ensures.plain c.base_id.ensures.expression ∙ ap root_kind c.base_id.ensures.tree) ∙ sym e)) c.requires.root

pub returns-in-Pow-clause-room : goal.returns-in-Pow-clause-room
returns-in-Pow-clause-room c = λ gs s. no_refusal _ c.power_of_power.result c.power_of_power.ensures.answered
