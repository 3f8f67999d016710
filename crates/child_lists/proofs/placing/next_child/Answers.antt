use Rattle.child_lists.proofs.Shared.{rules, ◌∙◌, arith}
use Rattle.child_lists.proofs.placing.next_child.Goals as goal

pub child-requires : goal.child-requires
child-requires g c = (search rules, (c.requires.stands, (c.requires.expression, (c.requires.lists, omega (arith, c.requires.within, c.children.ensures.plain c.requires.expression, c.if-at-children.false)))))

pub returns-then-at-children : goal.returns-then-at-children
returns-then-at-children g c = c.if-at-children.true ∙ c.children.ensures.value
