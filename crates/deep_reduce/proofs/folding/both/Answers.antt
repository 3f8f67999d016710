use Rattle.deep_reduce.proofs.{Shared.{sym, ◌∙◌}, Folded.{two_children}}
use Rattle.deep_reduce.proofs.folding.both.Goals as goal

pub returns-in_ok-right-in-Num : goal.returns-in_ok-right-in-Num
returns-in_ok-right-in-Num c =
    two_children _ _ _ (sym (c.children.ensures.plain c.requires.expression) ∙ c.if-children-ne2.false)
    (sym (c.child_id-left.ensures.plain c.requires.expression) ∙ c.rational.ensures.plain) (sym (c.child_id.ensures.plain c.requires.expression) ∙ c.in_ok-right-in-Num.ensures)
