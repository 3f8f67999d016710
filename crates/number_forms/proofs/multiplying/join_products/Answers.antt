use Rattle.number_forms.proofs.Shared.{◌≡◌, ℕ, ◌≤◌, ◌∷◌, Some, length, map, sym, ap, ◌∙◌, arith, add-one, rules, ◌-◌, inl, inr, slice_get, is_number, value, classes, term_times, Tree, Same-refl}
use Rattle.number_forms.proofs.Shared.{other_expression, gives_rest, lists_at, lists_kept, behind_first, tree_of, term_of, given_handed, given_other, given_told, plain_root, passed_on, overflow_as}
use Rattle.number_forms.proofs.{Shared.{spans_append, spans_row, expression}, Denominators.{parts_extracted}, Loops.{joined_none, joined_more, joined_all, from_all, read_same}}
use Rattle.number_forms.proofs.{Worth.{terms_from, products_next, same_first, get_from, from_from}, SumChanges.{read_sum}, Rows.{product_join_overflows}, Rooms.{full_as, spans_from, term_lacks}}
use Rattle.number_forms.proofs.{multiplying.join_products.Goals.{After-listed_term-other}, multiplying.join_products.Given.{Over}, Refusals.{none_kept}}
use Rattle.number_forms.proofs.Safety.{after_one, answered, overflowed, passed}
use Rattle.tree_handles.specs.declared.fault.NumberFault.TheVariants as fault
use Rattle.number_forms.proofs.multiplying.join_products.Goals as goal

pub term_count-at-end-requires : goal.term_count-at-end-requires
term_count-at-end-requires g c = record {
  stands = c.requires.stands;
  expression = other_expression c.args.number c.args.pool.now c.requires.stands c.requires.sum c.requires.handed;
  number = ap is_number (plain_root c.args.number c.requires.stands (given_other c.requires.sum c.requires.handed).root) ∙ c.requires.number;
}

pub loop-at-init : goal.loop-at-init
loop-at-init g c = record { joined = joined_none c.args.sum.now (map (term_times (term_of c.args.term)) (terms_from c.args.from (value (tree_of c.args.number c.args.pool.now)))) c.args.pool.now c.requires.stands c.requires.sum; begun = omega arith; lists = c.requires.lists }

pub listed_term-other-requires : goal.listed_term-other-requires
listed_term-other-requires g c = (search rules, (c.loop-at.invariant.joined.stands, (other_expression c.args.number c.loop-at.pool c.loop-at.invariant.joined.stands c.loop-at.invariant.joined.gives c.requires.handed, ((let same = read_same c.args.number c.loop-at.invariant.joined c.requires.sum c.requires.handed in ap is_number same ∙ c.requires.number), (lists_kept c.args.number c.args.pool.now c.loop-at.pool c.requires.stands c.loop-at.invariant.joined.stands c.requires.sum c.loop-at.invariant.joined.gives c.requires.handed c.requires.terms, (let same = ap classes (read_same c.args.number c.loop-at.invariant.joined c.requires.sum c.requires.handed) in let all = ap classes (plain_root c.args.number c.requires.stands (given_other c.requires.sum c.requires.handed).root) in omega (arith, same, all, c.term_count-at-end.ensures, c.loop-at-test.true)))))))

pub clean_radicand-clean-requires : goal.clean_radicand-clean-requires
clean_radicand-clean-requires g c = (search rules, (c.loop-at.invariant.joined.stands, (expression c.id.ensures c.loop-at.invariant.joined.stands (given_handed c.loop-at.invariant.joined.gives), (read_sum _ c.args.sum.now c.loop-at.pool c.id.ensures c.loop-at.invariant.joined.stands (gives_rest c.loop-at.invariant.joined.gives (λ t h. h.sum)), lists_at c.id.ensures c.loop-at.invariant.lists))))

pub join_term-requires : goal.join_term-requires
join_term-requires g c = (search rules, (c.loop-at.invariant.joined.stands, (gives_rest c.loop-at.invariant.joined.gives (λ t h. h.sum), c.loop-at.invariant.lists)))

pub loop-at-preserved : goal.loop-at-preserved
loop-at-preserved g c =
    let number : Tree = tree_of c.args.number c.args.pool.now in let x = term_of c.args.term in let y = term_of c.listed_term-other.result in
    let same = read_same c.args.number c.loop-at.invariant.joined c.requires.sum c.requires.handed in
    let here : slice_get (value number) c.loop-at.at ≡ Some y = ap (λ (t : Tree). slice_get (value t) c.loop-at.at) (sym same) ∙ c.listed_term-other.ensures in
    let next = products_next x (value number) c.loop-at.at y here ∙ ap (λ (n : ℕ). term_times x y ∷ map (term_times x) (terms_from n (value number))) (sym (add-one c.loop-at.at)) in
    record {
      joined = joined_more c.args.sum.now _ _ _ _ (term_times x y) c.args.pool.now c.loop-at.pool c.join_term.new.pool c.loop-at.invariant.joined next
          (same_first (term_of c.in_ok-product.product) (term_times x y) _ _ c.in_ok-product.ensures.product (Same-refl _))
          (parts_extracted (term_of c.in_ok-product.product) (term_times x y) _ c.in_ok-product.ensures.extracted)
          c.in_ok-join_term.ensures.ok c.join_term.ensures.safe.front c.in_ok-join_term.ensures.safe.kept c.join_term.ensures.safe.stands;
      begun = omega (arith, c.loop-at.invariant.begun);
      lists = c.in_ok-join_term.ensures.lists;
    }

-- the place among the terms from the first on
here : (g : Over) (c : After-listed_term-other g) → c.args.from ≤ c.loop-at.at
    → slice_get (terms_from c.args.from (value (tree_of c.args.number c.args.pool.now))) (c.loop-at.at - c.args.from) ≡ Some (term_of c.listed_term-other.result)
here g c begun =
    let v = value (tree_of c.args.number c.args.pool.now) in
    let same = read_same c.args.number c.loop-at.invariant.joined c.requires.sum c.requires.handed in
    get_from c.args.from c.loop-at.at v begun ∙ ap (λ (t : Tree). slice_get (value t) c.loop-at.at) (sym same) ∙ c.listed_term-other.ensures

pub returns : goal.returns
returns g c = record {
  ok = let all = ap classes (plain_root c.args.number c.requires.stands (given_other c.requires.sum c.requires.handed).root) in
      let end : length (value (tree_of c.args.number c.args.pool.now)) ≤ c.loop-at.at = omega (arith, all, c.term_count-at-end.ensures, c.loop-at-test.false) in
      joined_all c.loop-at.invariant.joined (ap (map (term_times (term_of c.args.term))) (from_all (value (tree_of c.args.number c.args.pool.now)) c.loop-at.at end));
  lists = c.loop-at.invariant.lists;
  overflow = tt;
  room = λ a b d f. tt;
  safe = let j = c.loop-at.invariant.joined in answered j.front j.kept j.stands;
}

pub returns-in_err-join_term : goal.returns-in_err-join_term
returns-in_err-join_term g c = let r = c.from_residual-in_err-join_term.result in let e = c.in_err-join_term.field-0.0 in let said = c.from_residual-in_err-join_term.ensures in record {
  ok = none_kept r _ said.0;
  lists = none_kept r _ said.0;
  overflow = let v = value (tree_of c.args.number c.args.pool.now) in let told = given_told c.loop-at.invariant.joined.gives in
      let left : terms_from (c.loop-at.at - c.args.from) (terms_from c.args.from v) ≡ terms_from c.loop-at.at v = from_from c.args.from c.loop-at.at v c.loop-at.invariant.begun in
      passed_on r e _ said.0 said.1 (overflow_as c.in_err-join_term.field-0.0 c.in_err-join_term.ensures.overflow (λ o j. record {
        at = c.loop-at.at - c.args.from;
        other = term_of c.listed_term-other.result;
        here = here g (goal.at.returns-in_err-join_term g c).After-listed_term-other c.loop-at.invariant.begun;
        cause = inr (product_join_overflows (sym left) (term_of c.in_ok-product.product) (tree_of c.args.sum.now c.loop-at.pool) c.in_ok-product.ensures.extracted told j);
      }));
  room = λ gs s x t. let v = value (tree_of c.args.number c.args.pool.now) in
      let row = spans_row gs (term_of c.args.term) (terms_from c.args.from v) x (spans_from gs v c.args.from t) in
      let left = spans_row gs (term_of c.args.term) (terms_from c.loop-at.at v) x (spans_from gs v c.loop-at.at t) in
      passed_on r e _ said.0 said.1 (full_as c.in_err-join_term.field-0.0 c.in_err-join_term.ensures.room (λ full few. term_lacks gs c.loop-at.invariant.joined c.requires.stands (given_handed c.requires.sum) (spans_append gs _ _ s row) left few));
  safe = let j = c.loop-at.invariant.joined in after_one j.kept behind_first j.front (passed r e said.0 said.1 c.in_err-join_term.ensures.safe);
}

pub returns-in_err-product : goal.returns-in_err-product
returns-in_err-product g c = let r = c.from_residual.result in let e = fault.Overflow c.in_err-product.field-0.0 in let said = c.from_residual.ensures in record {
  ok = none_kept r _ said.0;
  lists = none_kept r _ said.0;
  overflow = passed_on r e _ said.0 said.1 (record { at = c.loop-at.at - c.args.from; other = term_of c.listed_term-other.result; here = here g (goal.at.returns-in_err-product g c).After-listed_term-other c.loop-at.invariant.begun; cause = inl c.in_err-product.ensures.overflow });
  room = λ gs s x t. passed_on r e _ said.0 said.1 tt;
  safe = let j = c.loop-at.invariant.joined in overflowed r c.in_err-product.field-0.0 said.0 said.1 c.in_err-product.ensures.caused j.front j.kept j.stands;
}
