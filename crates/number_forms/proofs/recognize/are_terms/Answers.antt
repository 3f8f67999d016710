use Rattle.number_forms.proofs.Shared.{◌≡◌, ℕ, length, refl, sym, ap, ◌∙◌, arith, length_push, is_term, are_terms, count, trees_from, plain, children_of, tree_at, forest}
use Rattle.number_forms.proofs.{Children.{IsNextChild, left_more, next_child, none_left}, Rising.{terms_next, no_term, terms_end}, recognize.are_terms.Goals.{In-Some}}
use Rattle.number_forms.proofs.recognize.are_terms.Goals as goal

next : (c : In-Some) → IsNextChild (length c.loop-child.yielded) c.args.id c.in-Some.child c.args.pool.now
next c = next_child 0 (length c.loop-child.yielded) c.args.id c.loop-child.yielded _ c.in-Some.child _ c.args.pool.now c.requires.stands c.requires.expression (omega arith)
    (omega arith) c.loop-child.invariant.left c.in-Some.ensures.steps

pub loop-child-init : goal.loop-child-init
loop-child-init c = record { left = record { ids = sym c.child_ids-child-items.ensures ∙ sym c.into_iter-child-iterator.ensures.into_iter_gives }; terms = refl }

pub is_term-requires-clause-expression : goal.is_term-requires-clause-expression
is_term-requires-clause-expression c = (next (goal.at.is_term-requires-clause-expression c).In-Some).expression

pub returns-then-not-is_term : goal.returns-then-not-is_term
returns-then-not-is_term c =
    let ts = children_of (plain (tree_at c.args.id (forest c.args.pool.now))) in let n = next (goal.at.returns-then-not-is_term c).In-Some in
    sym (no_term ts (length c.loop-child.yielded) n.within (ap is_term (sym n.is) ∙ sym c.is_term.ensures ∙ c.if-not-is_term.true)) ∙ c.loop-child.invariant.terms

pub loop-child-preserved : goal.loop-child-preserved
loop-child-preserved c = let ts = children_of (plain (tree_at c.args.id (forest c.args.pool.now))) in let n = next (goal.at.loop-child-preserved c).In-Some in record {
  left = left_more c.loop-child.yielded _ c.in-Some.child _ c.loop-child.invariant.left c.in-Some.ensures.steps;
  terms = ap (λ (k : ℕ). are_terms (trees_from k ts)) (length_push c.loop-child.yielded c.in-Some.child)
      ∙ sym (terms_next ts (length c.loop-child.yielded) n.within (ap is_term (sym n.is) ∙ sym c.is_term.ensures ∙ c.if-not-is_term.false)) ∙ c.loop-child.invariant.terms;
}

pub returns : goal.returns
returns c =
    let ts = children_of (plain (tree_at c.args.id (forest c.args.pool.now))) in
    let all : length c.loop-child.yielded ≡ count ts = none_left 0 (length c.loop-child.yielded) c.args.id c.loop-child.yielded _ c.args.pool.now c.requires.expression (omega arith)
    (omega arith) c.loop-child.invariant.left c.in-None.ensures.steps.0 in
    sym (terms_end ts (length c.loop-child.yielded) (omega (arith, all))) ∙ c.loop-child.invariant.terms
