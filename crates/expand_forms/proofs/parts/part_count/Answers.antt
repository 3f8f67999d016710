use Rattle.expand_forms.proofs.{Shared.{◌∙◌, sym, plain, tree_at, forest}, NodeParts.{one_part, part_number}}
use Rattle.expand_forms.proofs.parts.part_count.Goals as goal

pub returns-in-Div : goal.returns-in-Div
returns-in-Div c = one_part (plain (tree_at c.args.id (forest c.args.pool.now))) (sym c.in-Div.is ∙ c.kind.ensures.plain c.requires.expression)

pub returns-in_default : goal.returns-in_default
returns-in_default c =
    c.children.ensures.plain c.requires.expression
    ∙ part_number (plain (tree_at c.args.id (forest c.args.pool.now))) c.requires.parts (λ e. c.in_default.not-Div (c.kind.ensures.plain c.requires.expression ∙ sym e))
