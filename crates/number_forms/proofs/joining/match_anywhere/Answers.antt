use Rattle.number_forms.proofs.Shared.{◌≡◌, ℕ, false, refl, sym, ap, ◌∙◌, arith, below_more, length_push, are_alike, count, term_of, plain, children_of, nth, tree_at, forest, passed_on}
use Rattle.number_forms.proofs.{Shared.{children_number, rules}, Children.{IsNextChild, left_more, next_child, none_left, few_children}, Joined.{apart_each}}
use Rattle.number_forms.proofs.{SquareFreeSums.{read_apart, read_joined, read_parts}, SumChanges.{term_of_sum}, Overflows.{join_overflow}, joining.match_anywhere.Goals.{In-Some}}
use Rattle.number_forms.proofs.Refusals.{none_given}
use Rattle.calc_algebra.specs.Numbers.{term_of as term_of_tree}
use Rattle.surd_terms.specs.declared.sums.Joined.TheVariants as joined
use Rattle.number_forms.proofs.joining.match_anywhere.Goals as goal

next : (c : In-Some) → IsNextChild c.loop-child.at c.args.sum c.in-Some.child c.args.pool.now
next c = next_child 0 c.loop-child.at c.args.sum c.loop-child.yielded _ c.in-Some.child _ c.args.pool.now c.requires.stands c.requires.expression (omega arith)
    (omega (arith, c.loop-child.invariant.place)) c.loop-child.invariant.left c.in-Some.ensures.steps

pub loop-child-init : goal.loop-child-init
loop-child-init c = record {
  left = record { ids = sym c.child_ids-child-items.ensures ∙ sym c.into_iter-child-iterator.ensures.into_iter_gives };
  place = refl;
  apart = λ k l. absurd (omega (arith, l));
}

pub term_at-other-requires-clause-expression : goal.term_at-other-requires-clause-expression
term_at-other-requires-clause-expression c = (next (goal.at.term_at-other-requires-clause-expression c).In-Some).expression

pub term_at-other-requires-clause-term : goal.term_at-other-requires-clause-term
term_at-other-requires-clause-term c =
    let n = next (goal.at.term_at-other-requires-clause-term c).In-Some in term_of_sum (plain (tree_at c.args.sum (forest c.args.pool.now))) _ c.loop-child.at c.requires.sum n.within n.is

pub overflow_add-at : goal.overflow_add-at
overflow_add-at c =
    let n = next (goal.at.overflow_add-at c).In-Some in
    record { fits = omega (arith, n.within, children_number c.args.sum (forest c.args.pool.now) c.requires.expression, few_children c.args.sum c.args.pool.now c.requires.stands) }

pub loop-child-preserved : goal.loop-child-preserved
loop-child-preserved c =
    let i = c.loop-child.invariant in let n = next (goal.at.loop-child-preserved c).In-Some in let ts = children_of (plain (tree_at c.args.sum (forest c.args.pool.now))) in record {
      left = left_more c.loop-child.yielded _ c.in-Some.child _ i.left c.in-Some.ensures.steps;
      place = omega (arith, i.place, length_push c.loop-child.yielded c.in-Some.child);
      apart = below_more (λ (k : ℕ). are_alike (term_of c.args.term).radicand (term_of_tree (nth k ts)).radicand ≡ false) c.loop-child.at i.apart
          (read_apart c.in_ok-join.field-0 (term_of c.term_at-other.result) (term_of c.args.term) _ _ c.in-Apart.is c.in_ok-join.ensures.joins c.term_at-other.ensures n.is);
    }

pub returns-in-Zero-clause-ok : goal.returns-in-Zero-clause-ok
returns-in-Zero-clause-ok c =
    let n = next (goal.at.returns-in-Zero-clause-ok c).In-Some in
    (n.within, read_joined c.in_ok-join.field-0 joined.Zero (term_of c.term_at-other.result) (term_of c.args.term) _ _ c.in-Zero.is c.in_ok-join.ensures.joins c.term_at-other.ensures n.is)

pub returns-in-Term-clause-ok : goal.returns-in-Term-clause-ok
returns-in-Term-clause-ok c =
    let n = next (goal.at.returns-in-Term-clause-ok c).In-Some in (
      n.within,
      read_joined c.in_ok-join.field-0 (joined.Term c.in-Term.joined) (term_of c.term_at-other.result) (term_of c.args.term) _ _ c.in-Term.is c.in_ok-join.ensures.joins c.term_at-other.ensures n.is,
      read_parts c.in_ok-join.field-0 c.in-Term.joined (term_of c.term_at-other.result) (term_of c.args.term) _ _ c.in-Term.is c.in_ok-join.ensures.sum c.term_at-other.ensures n.is,
    )

pub returns-clause-ok : goal.returns-clause-ok
returns-clause-ok c =
    let i = c.loop-child.invariant in let ts = children_of (plain (tree_at c.args.sum (forest c.args.pool.now))) in
    let all : c.loop-child.at ≡ count ts = none_left 0 c.loop-child.at c.args.sum c.loop-child.yielded _ c.args.pool.now c.requires.expression (omega arith)
    (omega (arith, i.place)) i.left c.in-None.ensures.steps.0 in
    (apart_each _ ts (λ k l. i.apart k (omega (arith, all, l))), c.requires.place)

pub returns-in_err-join : goal.returns-in_err-join
returns-in_err-join c = let r = c.from_residual.result in let e = c.in_err-join.field-0.0 in let said = c.from_residual.ensures in record {
  ok = none_given r _ said.0;
  overflow = let t = plain (tree_at c.args.sum (forest c.args.pool.now)) in let n = next (goal.at.returns-in_err-join c).In-Some in
      passed_on r e _ said.0 said.1 (join_overflow t c.loop-child.at _ _ _ n.within (c.term_at-other.ensures ∙ ap term_of_tree n.is) c.in_err-join.ensures.overflow);
  caused = search rules;
}
