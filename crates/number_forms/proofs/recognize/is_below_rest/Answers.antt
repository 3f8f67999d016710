use Rattle.number_forms.proofs.Shared.{◌≡◌, ℕ, ◌+◌, ◌++◌, ◌∷◌, [], ◌&&◌, length, not, nat_lt, refl, sym, ap, ◌∙◌, arith, length_push, is_below_all, is_term, terms_of, are_alike, Term, trees_from}
use Rattle.number_forms.proofs.{Shared.{term_of, plain, children_of, tree_at, forest, children_number}, Children.{IsNextChild, left_more, next_child, none_left}}
use Rattle.number_forms.proofs.{Rising.{below_next, not_below, below_end, nth_term}, recognize.is_below_rest.Goals.{In-Some}}
use Rattle.calc_algebra.specs.Numbers.{term_of as term_of_tree}
use Rattle.number_forms.proofs.recognize.is_below_rest.Goals as goal

next : (c : In-Some) → IsNextChild (c.args.from + length c.loop-child.yielded) c.args.id c.in-Some.child c.args.pool.now
next c = next_child c.args.from _ c.args.id c.loop-child.yielded _ c.in-Some.child _ c.args.pool.now c.requires.stands c.requires.expression c.requires.within refl c.loop-child.invariant.left c.in-Some.ensures.steps

pub child_ids-child-items-requires-clause-within : goal.child_ids-child-items-requires-clause-within
child_ids-child-items-requires-clause-within c = omega (arith, c.requires.within, children_number c.args.id (forest c.args.pool.now) c.requires.expression)

pub loop-child-init : goal.loop-child-init
loop-child-init c = let ts = children_of (plain (tree_at c.args.id (forest c.args.pool.now))) in let start : c.args.from + length {A = ℕ} [] ≡ c.args.from = omega arith in record {
  left = record { ids = sym c.child_ids-child-items.ensures ∙ sym c.into_iter-child-iterator.ensures.into_iter_gives };
  below = ap (λ (k : ℕ). is_below_all (term_of c.args.term) (terms_of (trees_from k ts))) start;
}

pub term_at-requires-clause-expression : goal.term_at-requires-clause-expression
term_at-requires-clause-expression c = (next (goal.at.term_at-requires-clause-expression c).In-Some).expression

pub term_at-requires-clause-term : goal.term_at-requires-clause-term
term_at-requires-clause-term c =
    let n = next (goal.at.term_at-requires-clause-term c).In-Some in ap is_term n.is ∙ nth_term (children_of (plain (tree_at c.args.id (forest c.args.pool.now)))) _ c.requires.terms n.within

pub returns-then-not-is_below : goal.returns-then-not-is_below
returns-then-not-is_below c =
    let ts = children_of (plain (tree_at c.args.id (forest c.args.pool.now))) in let n = next (goal.at.returns-then-not-is_below c).In-Some in
    let t = term_of c.args.term in let other = c.term_at.ensures ∙ ap term_of_tree n.is in
    let same = sym (ap (λ (u : Term). nat_lt t.radicand u.radicand && not (are_alike t.radicand u.radicand)) other) ∙ sym c.is_below.ensures in
    sym (not_below t ts _ n.within (same ∙ c.if-not-is_below.true)) ∙ c.loop-child.invariant.below

pub loop-child-preserved : goal.loop-child-preserved
loop-child-preserved c =
    let ts = children_of (plain (tree_at c.args.id (forest c.args.pool.now))) in let n = next (goal.at.loop-child-preserved c).In-Some in
    let t = term_of c.args.term in let other = c.term_at.ensures ∙ ap term_of_tree n.is in
    let same = sym (ap (λ (u : Term). nat_lt t.radicand u.radicand && not (are_alike t.radicand u.radicand)) other) ∙ sym c.is_below.ensures in
    let more : c.args.from + length (c.loop-child.yielded ++ (c.in-Some.child ∷ [])) ≡ c.args.from + length c.loop-child.yielded + 1 =
    omega (arith, length_push c.loop-child.yielded c.in-Some.child) in
    record {
      left = left_more c.loop-child.yielded _ c.in-Some.child _ c.loop-child.invariant.left c.in-Some.ensures.steps;
      below = ap (λ (k : ℕ). is_below_all t (terms_of (trees_from k ts))) more ∙ sym (below_next t ts _ n.within (same ∙ c.if-not-is_below.false)) ∙ c.loop-child.invariant.below;
    }

pub returns : goal.returns
returns c =
    let ts = children_of (plain (tree_at c.args.id (forest c.args.pool.now))) in
    let all = none_left c.args.from _ c.args.id c.loop-child.yielded _ c.args.pool.now c.requires.expression c.requires.within refl c.loop-child.invariant.left c.in-None.ensures.steps.0 in
    sym (below_end (term_of c.args.term) ts _ (omega (arith, all))) ∙ c.loop-child.invariant.below
