use Rattle.expand_forms.proofs.Shared.{rules, ◌+◌, ◌<◌, ◌∙◌, ◌++◌, drop, ap, sym, subst, arith, value_of, size, normal, IsNoOverflow, sum_bytes, Polynomial, product, polynomial_of, row, IsExpanded}
use Rattle.expand_forms.proofs.Shared.{free_of, OfFull, gives_rest, passed_on, full_as, IsExpression, plain, Forest, tree_of, tree_at, without_root, forest, behind_first}
use Rattle.expand_forms.proofs.{Shared.{given_handed, given_rest, lists_listed, gathered_append, gathered_products, gathered_refl}, JoinLoops.{IsNextPart, IsNextTerm, joined_all, joined_lacks}}
use Rattle.expand_forms.proofs.{JoinLoops.{joined_more, joined_none, next_part, next_term, part_few, part_held, place_read, terms_read}, Joins.{no_summands}, ListedTerms.{lists_beside}}
use Rattle.expand_forms.proofs.{Rows.{next_coefficient, rows_next}, TermReadings.{beside}, joining.join_products.Given.{Over}, joining.join_products.Goals.{After-coefficient-factor}}
use Rattle.calc_terms.proofs.FractionFacts.{zero_test as is_nonzero}
use Rattle.number_forms.proofs.Safety.{after_one, answered, no_answer, passed}
use Rattle.expand_forms.proofs.joining.join_products.Goals as goal

here : (g : Over) (c : After-coefficient-factor g)
    → IsNextTerm c.loop-at.at c.term_id-term.result (plain (tree_at c.args.a (without_root c.args.sum.now (forest c.args.pool.now)))) (without_root c.args.sum.now (forest c.loop-at.pool)) (forest c.loop-at.pool)
here g c =
    let j = c.loop-at.invariant.joined in
    next_term c.loop-at.at j.gives c.requires.first c.requires.first_expanded
    (place_read j.gives c.requires.sum c.requires.first c.term_count-at-end.ensures c.loop-at-test.true) c.term_id-term.ensures.inside c.term_id-term.ensures.expression c.term_id-term.ensures.tree

next : (g : Over) (c : After-coefficient-factor g)
    → IsNextPart (product (drop c.loop-at.at (normal (polynomial_of (plain (tree_at c.args.a (without_root c.args.sum.now (forest c.args.pool.now))))))) (normal (polynomial_of (plain (tree_at c.args.b (without_root c.args.sum.now (forest c.args.pool.now)))))))
    (row (value_of c.coefficient-factor.result) (plain (tree_at c.term_id-term.result (without_root c.args.sum.now (forest c.loop-at.pool)))) 0
    (plain (tree_at c.args.b (without_root c.args.sum.now (forest c.loop-at.pool)))))
    (product (drop (c.loop-at.at + 1) (normal (polynomial_of (plain (tree_at c.args.a (without_root c.args.sum.now (forest c.args.pool.now)))))))
    (normal (polynomial_of (plain (tree_at c.args.b (without_root c.args.sum.now (forest c.args.pool.now)))))))
next g c =
    let x = here g c in
    let a = normal (polynomial_of (plain (tree_at c.args.a (without_root c.args.sum.now (forest c.args.pool.now))))) in
    let b = plain (tree_at c.args.b (without_root c.args.sum.now (forest c.args.pool.now))) in
    let r = given_rest c.loop-at.invariant.joined.gives in
    next_part (rows_next (plain (tree_at c.args.a (without_root c.args.sum.now (forest c.args.pool.now)))) x.term x.next (next_coefficient x c.coefficient-factor.ensures) b
    ∙ (λ i. row (value_of c.coefficient-factor.result) (plain (tree_at c.term_id-term.result (without_root c.args.sum.now (forest c.loop-at.pool)))) 0
    (plain (tree_at c.args.b (sym r i))) ++ product (drop (c.loop-at.at + 1) a) (normal (polynomial_of b))))

pub term_count-at-end-requires-clause-expression : goal.term_count-at-end-requires-clause-expression
term_count-at-end-requires-clause-expression g c = (beside c.requires.sum c.requires.first).expression

pub loop-at-init : goal.loop-at-init
loop-at-init g c = let o = without_root c.args.sum.now (forest c.args.pool.now) in record {
  lists = c.requires.lists;
  joined = joined_none c.args.sum.now _ _ c.args.pool.now c.requires.stands c.requires.sum
      (gathered_append (gathered_products (plain (tree_at c.args.a o)) (plain (tree_at c.args.b o)) c.requires.first_expanded c.requires.second_expanded)
      (gathered_refl (polynomial_of (tree_of c.args.sum.now c.args.pool.now))));
}

pub of-firsts-requires : goal.of-firsts-requires
of-firsts-requires g c = (search rules, (c.requires.stands, (beside c.requires.sum c.requires.first).expression))

pub term_id-term-requires : goal.term_id-term-requires
term_id-term-requires g c =
    let j = c.loop-at.invariant.joined in
    (search rules, (j.stands, ((beside j.gives c.requires.first).expression, (lists_beside c.requires.sum j.gives c.requires.first (lists_listed _ c.of-firsts.ensures), place_read j.gives c.requires.sum c.requires.first c.term_count-at-end.ensures c.loop-at-test.true))))

pub join_row-requires : goal.join_row-requires
join_row-requires g c =
    let at = (goal.at.join_row-requires g c).After-coefficient-factor in
    let j = c.loop-at.invariant.joined in
    let r = sym (given_rest j.gives) in
    let x = here g at in
    (search rules, (j.stands, (gives_rest j.gives (λ t h. h.sum), (c.loop-at.invariant.lists, (is_nonzero _ (λ z. x.term.nonzero (sym (next_coefficient x c.coefficient-factor.ensures) ∙ z)), (x.expression, (subst (IsExpression c.args.b) r c.requires.second, (x.term, subst (λ (f : Forest). IsExpanded (plain (tree_at c.args.b f))) r c.requires.second_expanded))))))))

pub loop-at-preserved : goal.loop-at-preserved
loop-at-preserved g c = record {
  lists = c.in_ok-join_row.ensures.lists;
  joined = joined_more c.loop-at.invariant.joined
      (next g (goal.at.loop-at-preserved g c).After-coefficient-factor) c.in_ok-join_row.ensures.ok c.join_row.ensures.safe.front c.in_ok-join_row.ensures.safe.kept c.join_row.ensures.safe.stands;
}

pub returns-in_err-join_row : goal.returns-in_err-join_row
returns-in_err-join_row g c = let r = c.from_residual.result in let e = c.in_err-join_row.field-0.0 in let said = c.from_residual.ensures in record {
  ok = no_answer r _ said.0;
  lists = no_answer r _ said.0;
  fits = λ h l held k.
      let at = (goal.at.returns-in_err-join_row g c).After-coefficient-factor in
      passed_on r e IsNoOverflow said.0 said.1 (c.in_err-join_row.ensures.fits h l (part_held c.loop-at.invariant.joined (next g at) held) k);
  room = λ ns n few.
      let at = (goal.at.returns-in_err-join_row g c).After-coefficient-factor in
      let j = c.loop-at.invariant.joined in
      passed_on r c.in_err-join_row.field-0.0 (OfFull (λ full. free_of c.args.pool.now + size (tree_of c.args.sum.now c.args.pool.now) < sum_bytes ns n)) said.0 said.1
      (full_as c.in_err-join_row.field-0.0 (c.in_err-join_row.ensures.room ns n (part_few j (next g at) few))
      (λ full short. joined_lacks (sum_bytes ns n) j c.requires.stands (given_handed c.requires.sum) short));
  safe = let j = c.loop-at.invariant.joined in after_one j.kept behind_first j.front (passed r e said.0 said.1 c.in_err-join_row.ensures.safe);
}

pub returns : goal.returns
returns g c = record {
  ok = let o = without_root c.args.sum.now (forest c.args.pool.now) in
      let many = terms_read c.requires.sum c.requires.first c.requires.first_expanded c.term_count-at-end.ensures in
      joined_all c.loop-at.invariant.joined (ap (λ (v : Polynomial). product v (normal (polynomial_of (plain (tree_at c.args.b o)))))
      (no_summands c.loop-at.at (normal (polynomial_of (plain (tree_at c.args.a o)))) (omega (arith, many, c.loop-at-test.false))));
  lists = c.loop-at.invariant.lists;
  fits = λ a b d e. tt;
  room = λ a b d. tt;
  safe = let j = c.loop-at.invariant.joined in answered j.front j.kept j.stands;
}
