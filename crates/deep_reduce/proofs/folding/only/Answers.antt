use Rattle.deep_reduce.proofs.{Shared.{◌≡◌, sym, ◌∙◌, subst, Tree, children_of, num, plain, tree_at, forest, value_of}, Folded.{only_child}}
use Rattle.std.specs.Prelude.{IfSome}
use Rattle.deep_reduce.proofs.folding.only.Goals as goal

pub returns : goal.returns
returns c =
    only_child (children_of (plain (tree_at c.args.id (forest c.args.pool.now)))) c.rational_at.result (sym (c.children.ensures.plain c.requires.expression) ∙ c.if-children-ne1.false)
    (subst (λ (t : Tree). IfSome c.rational_at.result (λ q. t ≡ num (value_of q))) (c.child_id.ensures.plain c.requires.expression) c.rational_at.ensures)
