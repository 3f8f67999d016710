use Rattle.number_forms.proofs.Shared.{◌≡◌, ◌-◌, true, sym, ap, ◌∙◌, subst, arith, is_number, is_reduced, Tree, add, count, has_term_shape, plain, children_of, tree_at, forest}
use Rattle.number_forms.proofs.{ByKind.{add_by_kind}, ReducedNumbers.{reduced_two, reduced_sum}, read.is_reduced_number.Goals.{After-children-last}}
use Rattle.number_forms.proofs.read.is_reduced_number.Goals as goal

sum : (c : After-children-last) → plain (tree_at c.args.id (forest c.args.pool.now)) ≡ add (children_of (plain (tree_at c.args.id (forest c.args.pool.now))))
sum c = add_by_kind _ (sym (c.kind.ensures.plain c.requires.expression) ∙ c.in-Add.is)

reduced : (c : After-children-last) → is_reduced (add (children_of (plain (tree_at c.args.id (forest c.args.pool.now))))) ≡ true
reduced c = subst (λ (t : Tree). is_reduced t ≡ true) (sum c) c.requires.reduced

many : (c : After-children-last) → c.children-last.result ≡ count (children_of (plain (tree_at c.args.id (forest c.args.pool.now))))
many c = c.children-last.ensures.plain c.requires.expression

pub overflow_sub-last : goal.overflow_sub-last
overflow_sub-last c = omega (arith, reduced_two _ (reduced c), many c)

pub child_id-requires-clause-within : goal.child_id-requires-clause-within
child_id-requires-clause-within c = omega (arith, reduced_two _ (reduced c), many c, c.children-last.ensures.value)

pub returns-in-Add : goal.returns-in-Add
returns-in-Add c =
    let f = forest c.args.pool.now in let t = plain (tree_at c.args.id f) in
    let s : t ≡ add (children_of t) = add_by_kind _ (sym (c.kind.ensures.plain c.requires.expression) ∙ c.in-Add.is) in
    let r : is_reduced (add (children_of t)) ≡ true = subst (λ (u : Tree). is_reduced u ≡ true) s c.requires.reduced in
    let m : c.children-last.result ≡ count (children_of t) = c.children-last.ensures.plain c.requires.expression in
    c.has_term_shape.ensures ∙ ap has_term_shape (c.child_id.ensures.plain c.requires.expression)
    ∙ reduced_sum (children_of t) (c.children-last.result - 1) r (omega (arith, reduced_two _ r, m)) ∙ ap is_number (sym s)
