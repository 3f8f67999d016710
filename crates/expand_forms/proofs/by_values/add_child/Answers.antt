use Rattle.expand_forms.proofs.{Shared.{◌∙◌, List, sym, subst, Term, IsListOf, forest, plain, polynomial_of, tree_at, value_of, list_sum}, ValueNodes.{passed}}
use Rattle.expansions.specs.Named.{names_of}
use Rattle.expand_forms.proofs.by_values.add_child.Goals as goal

pub returns-clause-list : goal.returns-clause-list
returns-clause-list c = λ v l e.
    let w = polynomial_of (plain (tree_at c.args.child (forest c.args.pool.now))) in
    let ns = names_of c.args.lists.now.names.items in
    let old = subst (λ (ts : List Term). IsListOf ns ts v) (sym c.list_child.ensures.answer) l in
    let child = c.list_child.ensures.list c.if-not-list_child.false in
    let sum = passed c.add_scaled.result c.add_scaled.ensures.terms (sym c.is_err.ensures.value ∙ c.if-is_err.false) in
    rw c.swap.ensures.x_after (list_sum (value_of c.args.factor) (subst (λ (ts : List Term). IsListOf ns ts v) (sym c.deref.ensures.value) old)
    (subst (λ (ts : List Term). IsListOf ns ts w) (sym c.deref-2.ensures.value) child) sum)
