use Rattle.expand_forms.proofs.{Shared.{arith, children_number, ◌∙◌, ap, sym, forest, is_add, plain, tree_at}, PowersOfSums.{no_power, two_children, by_base}}
use Rattle.expand_forms.proofs.powers_of_sums.is_power_of_sum.Goals as goal

pub child_id-requires-clause-within : goal.child_id-requires-clause-within
child_id-requires-clause-within c =
    omega (arith, two_children (plain (tree_at c.args.id (forest c.args.pool.now))) (sym c.in-Pow.is ∙ c.kind.ensures.plain c.requires.expression), children_number c.args.id (forest c.args.pool.now) c.requires.expression)

pub returns-in-Pow : goal.returns-in-Pow
returns-in-Pow c =
    c.is_sum.ensures ∙ ap is_add (c.child_id.ensures.plain c.requires.expression)
    ∙ by_base (plain (tree_at c.args.id (forest c.args.pool.now))) (sym c.in-Pow.is ∙ c.kind.ensures.plain c.requires.expression)

pub returns-in_default : goal.returns-in_default
returns-in_default c = sym (no_power (plain (tree_at c.args.id (forest c.args.pool.now))) (λ e. c.in_default.not-Pow (c.kind.ensures.plain c.requires.expression ∙ sym e)))
