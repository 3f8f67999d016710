use Rattle.number_forms.proofs.Shared.{◌≡◌, ◌<◌, Some, sym, ap, ◌∙◌, subst, arith, true, slice_get, is_number, is_term, value, classes, Tree, add, count, plain, children_of, tree_at, forest}
use Rattle.number_forms.proofs.{Shared.{term_test, children_number}, ByKind.{add_by_kind, sum_classes}, Shaped.{added_number, nth_of_terms, nth_is_term}, TermTrees.{single_term}}
use Rattle.calc_algebra.specs.Numbers.{term_of as term_of_tree}
use Rattle.number_forms.proofs.term.nth_term.Goals as goal

pub child_id-requires-clause-within : goal.child_id-requires-clause-within
child_id-requires-clause-within c =
    let f = forest c.args.pool.now in
    let many : classes (plain (tree_at c.args.id f)) ≡ count (children_of (plain (tree_at c.args.id f))) = sum_classes _ (sym (c.kind.ensures.plain c.requires.expression) ∙ c.in-Add.is) in
    omega (arith, c.requires.within, many, children_number c.args.id f c.requires.expression)

pub term_at-requires-clause-term : goal.term_at-requires-clause-term
term_at-requires-clause-term c =
    let f = forest c.args.pool.now in let t = plain (tree_at c.args.id f) in let k = sym (c.kind.ensures.plain c.requires.expression) ∙ c.in-Add.is in
    let many : classes t ≡ count (children_of t) = sum_classes _ k in
    let sum : is_number (add (children_of t)) ≡ true = subst (λ (u : Tree). is_number u ≡ true) (add_by_kind t k) c.requires.number in
    let within : c.args.at < count (children_of t) = omega (arith, c.requires.within, many) in
    ap is_term (c.child_id.ensures.plain c.requires.expression) ∙ term_test _ (nth_is_term (children_of t) c.args.at within (added_number (children_of t) sum).0)

pub term_at-requires-in_default : goal.term_at-requires-in_default
term_at-requires-in_default c =
    record { stands = c.requires.stands; expression = c.requires.expression; term = term_test _ (single_term _ c.args.at c.requires.number (λ k. c.in_default.not-Add (c.kind.ensures.plain c.requires.expression ∙ k)) c.requires.within) }

pub returns-in-Add : goal.returns-in-Add
returns-in-Add c =
    let f = forest c.args.pool.now in let t = plain (tree_at c.args.id f) in let k = sym (c.kind.ensures.plain c.requires.expression) ∙ c.in-Add.is in
    let many : classes t ≡ count (children_of t) = sum_classes _ k in
    let within : c.args.at < count (children_of t) = omega (arith, c.requires.within, many) in
    ap (λ (u : Tree). slice_get (value u) c.args.at) (add_by_kind t k) ∙ nth_of_terms (children_of t) c.args.at within
    ∙ ap Some (sym (c.term_at.ensures ∙ ap term_of_tree (c.child_id.ensures.plain c.requires.expression)))
