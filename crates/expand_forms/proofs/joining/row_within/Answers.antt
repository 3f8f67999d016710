use Rattle.expand_forms.proofs.Shared.{rules, Overflows, ◌≡◌, ◌+◌, ◌∙◌, ◌∷◌, [], ap, refl, sym, subst, arith, ◌<◌, not_from_false, no_zero, Fraction, times, value_of, size, IsNoOverflow, sum_bytes, Monomial}
use Rattle.expand_forms.proofs.Shared.{monomial_times, summand, row, HasMonomial, coefficient_in, free_of, OfFull, gives_rest, passed_on, full_as, IsExpression, plain, Forest, tree_of, tree_at}
use Rattle.expand_forms.proofs.Shared.{without_root, forest, behind_first, given_handed, given_rest, lists_listed, gathered_refl, monomial_times_monomial, contradiction}
use Rattle.expand_forms.proofs.{JoinLoops.{joined_none, IsNextPart, IsNextTerm, joined_all, joined_more, next_term, part_few, part_held, place_read, terms_read}, JoinRooms.{term_lacks}}
use Rattle.expand_forms.proofs.{ListedTerms.{lists_beside}, Rows.{next_coefficient, product_nonzero, row_end, row_next}, Splits.{first_fits}, TermReadings.{beside, term_monomial}}
use Rattle.expand_forms.proofs.{joining.row_within.Given.{Over}, joining.row_within.Goals.{After-term_id-other}}
use Rattle.number_forms.proofs.Safety.{after_one, answered, no_answer, overflowed, passed, room_overflow}
use Rattle.expand_forms.proofs.joining.row_within.Goals as goal

here : (g : Over) (c : After-term_id-other g)
    → IsNextTerm c.loop-at.at c.term_id-other.result (plain (tree_at c.args.b (without_root c.args.sum.now (forest c.args.pool.now)))) (without_root c.args.sum.now (forest c.loop-at.pool)) (forest c.loop-at.pool)
here g c =
    let j = c.loop-at.invariant.joined in
    next_term c.loop-at.at j.gives c.requires.second c.requires.second_expanded
    (place_read j.gives c.requires.sum c.requires.second c.term_count-at-end.ensures c.loop-at-test.true) c.term_id-other.ensures.inside c.term_id-other.ensures.expression c.term_id-other.ensures.tree

-- the monomial of the term
first : (g : Over) (c : After-term_id-other g) → HasMonomial c.requires.first_term.summand.monomial (plain (tree_at c.args.term (without_root c.args.sum.now (forest c.loop-at.pool))))
first g c = subst (λ (f : Forest). HasMonomial c.requires.first_term.summand.monomial (plain (tree_at c.args.term f))) (sym (given_rest c.loop-at.invariant.joined.gives))
    (term_monomial c.requires.first_term)

next : (g : Over) (c : After-term_id-other g) (q r : Fraction) → r ≡ coefficient_in (plain (tree_at c.term_id-other.result (forest c.loop-at.pool))) → q ≡ times (value_of c.args.factor) r
    → IsNextPart (row (value_of c.args.factor) (plain (tree_at c.args.term (without_root c.args.sum.now (forest c.args.pool.now)))) c.loop-at.at (plain (tree_at c.args.b (without_root c.args.sum.now (forest c.args.pool.now)))))
    (summand q (monomial_times c.requires.first_term.summand.monomial (here g c).term.summand.monomial) ∷ [])
    (row (value_of c.args.factor) (plain (tree_at c.args.term (without_root c.args.sum.now (forest c.args.pool.now)))) (c.loop-at.at + 1)
    (plain (tree_at c.args.b (without_root c.args.sum.now (forest c.args.pool.now)))))
next g c q r e p =
    let x = here g c in
    row_next c.requires.first_term (value_of c.args.factor) q c.loop-at.at x.term.summand (plain (tree_at c.args.b (without_root c.args.sum.now (forest c.args.pool.now)))) x.next
    (p ∙ ap (times (value_of c.args.factor)) (next_coefficient x e))

pub term_count-at-end-requires-clause-expression : goal.term_count-at-end-requires-clause-expression
term_count-at-end-requires-clause-expression g c = (beside c.requires.sum c.requires.second).expression

pub of-seconds-requires : goal.of-seconds-requires
of-seconds-requires g c = (omega (arith, c.requires.few), (c.requires.stands, (beside c.requires.sum c.requires.second).expression))

pub loop-at-init : goal.loop-at-init
loop-at-init g c = record { lists = c.requires.lists; joined = joined_none c.args.sum.now _ _ c.args.pool.now c.requires.stands c.requires.sum (gathered_refl _) }

pub term_id-other-requires : goal.term_id-other-requires
term_id-other-requires g c =
    let j = c.loop-at.invariant.joined in
    (search rules, (j.stands, ((beside j.gives c.requires.second).expression, (lists_beside c.requires.sum j.gives c.requires.second (lists_listed _ c.of-seconds.ensures), place_read j.gives c.requires.sum c.requires.second c.term_count-at-end.ensures c.loop-at-test.true))))

pub join_product-requires : goal.join_product-requires
join_product-requires g c =
    let at = (goal.at.join_product-requires g c).After-term_id-other in
    let j = c.loop-at.invariant.joined in
    let x = here g at in
    let nonzero = product_nonzero c.in_ok-product.ensures.product (no_zero _ (not_from_false _ c.requires.nonzero)) (next_coefficient x c.coefficient.ensures) x.term.nonzero in
    let term = subst (IsExpression c.args.term) (sym (given_rest j.gives)) c.requires.first in
    (search rules, (j.stands, (gives_rest j.gives (λ t h. h.sum), (c.loop-at.invariant.lists, (nonzero, (term, (x.expression, (c.requires.first_term.summand.monomial, x.term.summand.monomial, first g at, term_monomial x.term))))))))

pub loop-at-preserved : goal.loop-at-preserved
loop-at-preserved g c = let at = (goal.at.loop-at-preserved g c).After-term_id-other in let x = here g at in record {
  lists = c.in_ok-join_product.ensures.lists;
  joined = joined_more c.loop-at.invariant.joined (next g at (value_of c.in_ok-product.product) _ c.coefficient.ensures c.in_ok-product.ensures.product)
      (c.in_ok-join_product.ensures.ok c.requires.first_term.summand.monomial x.term.summand.monomial (first g at)
      (term_monomial x.term)) c.join_product.ensures.safe.front c.in_ok-join_product.ensures.safe.kept c.join_product.ensures.safe.stands;
}

-- ---- what fits

pub returns-in_err-product : goal.returns-in_err-product
returns-in_err-product g c = let r = c.from_residual.result in let e = c.in_err-product.field-0.0 in let said = c.from_residual.ensures in record {
  ok = no_answer r _ said.0;
  lists = no_answer r _ said.0;
  fits = λ h l held k.
      let at = (goal.at.returns-in_err-product g c).After-term_id-other in
      let q = times (value_of c.args.factor) (value_of c.coefficient.result) in
      contradiction (first_fits (summand q (monomial_times c.requires.first_term.summand.monomial (here g at).term.summand.monomial))
      (part_held c.loop-at.invariant.joined (next g at q _ c.coefficient.ensures refl) held) k) (c.in_err-product.ensures.refused.0 refl);
  room = λ a b d. room_overflow r e _ said.0 said.1;
  safe = let j = c.loop-at.invariant.joined in
      overflowed r e said.0 said.1 (subst Overflows (sym c.in_err-product.ensures.named) (c.in_err-product.ensures.refused.0 refl)) j.front j.kept j.stands;
}

pub returns-in_err-join_product : goal.returns-in_err-join_product
returns-in_err-join_product g c =
    let r = c.from_residual-in_err-join_product.result in let e = c.in_err-join_product.field-0.0 in let said = c.from_residual-in_err-join_product.ensures in record {
      ok = no_answer r _ said.0;
      lists = no_answer r _ said.0;
      fits = λ h l held k.
          let at = (goal.at.returns-in_err-join_product g c).After-term_id-other in
          let x = here g at in
          passed_on r e IsNoOverflow said.0 said.1 (c.in_err-join_product.ensures.fits c.requires.first_term.summand.monomial x.term.summand.monomial h l (first g at) (term_monomial x.term)
          (part_held c.loop-at.invariant.joined (next g at (value_of c.in_ok-product.product) _ c.coefficient.ensures c.in_ok-product.ensures.product) held) k);
      room = λ ns n few.
          let at = (goal.at.returns-in_err-join_product g c).After-term_id-other in
          let j = c.loop-at.invariant.joined in
          let x = here g at in
          let m : Monomial = c.requires.first_term.summand.monomial in
          let all = part_few j (next g at (value_of c.in_ok-product.product) _ c.coefficient.ensures c.in_ok-product.ensures.product) few in
          passed_on r c.in_err-join_product.field-0.0 (OfFull (λ full. free_of c.args.pool.now + size (tree_of c.args.sum.now c.args.pool.now) < sum_bytes ns n)) said.0 said.1
          (full_as c.in_err-join_product.field-0.0 (c.in_err-join_product.ensures.room m x.term.summand.monomial (first g at) (term_monomial x.term))
          (λ full short. term_lacks (summand (value_of c.in_ok-product.product) (monomial_times m x.term.summand.monomial))
          (monomial_times_monomial m x.term.summand.monomial c.requires.first_term.monomial x.term.monomial) j c.requires.stands (given_handed c.requires.sum) all short));
      safe = let j = c.loop-at.invariant.joined in after_one j.kept behind_first j.front (passed r e said.0 said.1 c.in_err-join_product.ensures.safe);
    }

pub returns : goal.returns
returns g c = record {
  ok = let o = without_root c.args.sum.now (forest c.args.pool.now) in
      let many = terms_read c.requires.sum c.requires.second c.requires.second_expanded c.term_count-at-end.ensures in
      joined_all c.loop-at.invariant.joined (row_end (value_of c.args.factor) (plain (tree_at c.args.term o)) c.loop-at.at (plain (tree_at c.args.b o)) (omega (arith, many, c.loop-at-test.false)));
  lists = c.loop-at.invariant.lists;
  fits = λ a b d e. tt;
  room = λ a b d. tt;
  safe = let j = c.loop-at.invariant.joined in answered j.front j.kept j.stands;
}
