use Rattle.expand_forms.proofs.{Shared.{names, AreAmong, ◌∙◌, List, sym, subst, Name, IsListOf, forest, plain, polynomial_of, tree_at}, PowersOfSums.{ready_expanded}, ValueNodes.{went}}
use Rattle.expansions.specs.Named.{names_of}
use Rattle.expand_forms.proofs.by_values.list_child.Goals as goal

pub read_terms-requires-clause-expanded : goal.read_terms-requires-clause-expanded
read_terms-requires-clause-expanded c = ready_expanded c.requires.ready (sym c.is_power_of_sum.ensures ∙ c.if-is_power_of_sum.false)

pub read_terms-requires-clause-named : goal.read_terms-requires-clause-named
read_terms-requires-clause-named c = subst (λ (xs : List Name). AreAmong (names_of xs) (names (plain (tree_at c.args.child (forest c.args.pool.now))))) (sym c.deref.ensures.value) c.requires.names.all

pub returns-clause-list : goal.returns-clause-list
returns-clause-list c = λ e.
    let w = polynomial_of (plain (tree_at c.args.child (forest c.args.pool.now))) in
    subst (λ (xs : List Name). IsListOf (names_of xs) c.read_terms.new.list.items w) c.deref.ensures.value (went c.read_terms.result c.read_terms.ensures.terms (sym c.is_ok.ensures.value ∙ e))
