use Rattle.expand_forms.proofs.{Shared.{◌∙◌, sym, one_value, plain, tree_at, forest}, TermReadings.{no_coefficient}}
use Rattle.expand_forms.proofs.factors.coefficient.Goals as goal

pub returns-in_default : goal.returns-in_default
returns-in_default c =
    let k = c.kind.ensures.plain c.requires.expression in
    one_value c.whole.result c.whole.ensures ∙ sym (no_coefficient (plain (tree_at c.args.term (forest c.args.pool.now))) (λ e. c.in_default.not-Num (k ∙ e)) (λ e. c.in_default.not-Mult (k ∙ e)))
