use Rattle.expand_forms.proofs.{Shared.{◌∙◌, List, sym, subst, Term, IsListOf, forest, plain, polynomial_of, tree_at}, ValueNodes.{passed}}
use Rattle.expansions.specs.Named.{names_of}
use Rattle.expand_forms.proofs.by_values.multiply_child.Goals as goal

pub returns-clause-list : goal.returns-clause-list
returns-clause-list c = λ v l e.
    let w = polynomial_of (plain (tree_at c.args.child (forest c.args.pool.now))) in
    let ns = names_of c.args.lists.now.names.items in
    let old = subst (λ (ts : List Term). IsListOf ns ts v) (sym c.list_child.ensures.answer) l in
    let child = c.list_child.ensures.list c.if-not-list_child.false in
    let first = subst (λ (ts : List Term). IsListOf ns ts w) (sym c.deref-3.ensures.value) child in
    let second = subst (λ (ts : List Term). IsListOf ns ts v) (sym c.deref-4.ensures.value) old in
    rw c.swap.ensures.x_after (passed c.multiply.result (c.multiply.ensures ns w v first second) (sym c.is_err.ensures.value ∙ c.if-is_err.false))
