use Rattle.number_forms.proofs.{Shared.{◌≡◌, sym, ap, ◌∙◌, arith, count, term_of, plain, children_of, tree_at, forest, passed_on, rules}, SumChanges.{term_of_sum}}
use Rattle.number_forms.proofs.{SquareFreeSums.{read_apart, read_joined, read_parts, read_radicand}, Joined.{other_radicand}, Overflows.{join_overflow}, joining.match_equal.Given.{Over}}
use Rattle.number_forms.proofs.{joining.match_equal.Goals.{After-children}, Refusals.{none_given}}
use Rattle.calc_algebra.specs.Numbers.{term_of as term_of_tree}
use Rattle.surd_terms.specs.declared.sums.Joined.TheVariants as joined
use Rattle.number_forms.proofs.joining.match_equal.Goals as goal

many : (g : Over) (c : After-children g) → c.children.result ≡ count (children_of (plain (tree_at c.args.sum (forest c.args.pool.now))))
many g c = c.children.ensures.plain c.requires.expression

pub returns-then-at-children-clause-ok : goal.returns-then-at-children-clause-ok
returns-then-at-children-clause-ok g c = λ l e. absurd (omega (arith, many g (goal.at.returns-then-at-children-clause-ok g c).After-children, c.if-at-children.true, l))

pub term_at-other-requires-clause-term : goal.term_at-other-requires-clause-term
term_at-other-requires-clause-term g c =
    let m = many g (goal.at.term_at-other-requires-clause-term g c).After-children in
    term_of_sum (plain (tree_at c.args.sum (forest c.args.pool.now))) _ c.args.at c.requires.sum (omega (arith, m, c.requires.place.within, c.if-at-children.false)) c.child.ensures.plain

pub returns-in-Term-clause-ok : goal.returns-in-Term-clause-ok
returns-in-Term-clause-ok g c =
    let m = many g (goal.at.returns-in-Term-clause-ok g c).After-children in (
      omega (arith, m, c.requires.place.within, c.if-at-children.false),
      read_joined c.in_ok-joined.joined (joined.Term c.in-Term.one) (term_of c.term_at-other.result)
          (term_of c.args.term) _ _ c.in-Term.is c.in_ok-joined.ensures.joins c.term_at-other.ensures c.child.ensures.plain,
      read_parts c.in_ok-joined.joined c.in-Term.one (term_of c.term_at-other.result) (term_of c.args.term) _ _ c.in-Term.is c.in_ok-joined.ensures.sum c.term_at-other.ensures c.child.ensures.plain,
    )

pub returns-then-radicand-clause-ok : goal.returns-then-radicand-clause-ok
returns-then-radicand-clause-ok g c = λ l e. c.if-radicand.true
    (read_radicand c.radicand.result (term_of c.term_at-other.result) _ _ c.radicand.ensures.value c.term_at-other.ensures c.child.ensures.plain ∙ sym e ∙ sym c.radicand-2.ensures.value)

pub returns-in-Apart-clause-ok : goal.returns-in-Apart-clause-ok
returns-in-Apart-clause-ok g c = λ l e. other_radicand (term_of c.args.term).radicand _ c.args.term.positive
    (read_apart c.in_ok-joined.joined (term_of c.term_at-other.result) (term_of c.args.term) _ _ c.in-Apart.is c.in_ok-joined.ensures.joins c.term_at-other.ensures c.child.ensures.plain) e

pub returns-in_err-joined : goal.returns-in_err-joined
returns-in_err-joined g c = let r = c.from_residual.result in let e = c.in_err-joined.field-0.0 in let said = c.from_residual.ensures in record {
  ok = none_given r _ said.0;
  overflow = let t = plain (tree_at c.args.sum (forest c.args.pool.now)) in let m = many g (goal.at.returns-in_err-joined g c).After-children in
      passed_on r e _ said.0 said.1 (join_overflow t c.args.at _ _ _ (omega (arith, m, c.requires.place.within, c.if-at-children.false))
      (c.term_at-other.ensures ∙ ap term_of_tree c.child.ensures.plain) c.in_err-joined.ensures.overflow);
  caused = search rules;
}
