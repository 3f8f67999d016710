use Rattle.number_forms.proofs.Shared.{◌≡◌, ℕ, ◌≤◌, ◌++◌, Some, length, map, sym, ap, ◌∙◌, arith, add-one, subst, rules, slice_get, is_number, value, classes, surd_times, term_times, Surd}
use Rattle.number_forms.proofs.Shared.{Tree, SharesDenominators, IsSumOf, lists_kept, other_plain, other_expression, gives_rest, tree_of, Gives, term_of, without_root, forest, given_other}
use Rattle.number_forms.proofs.Shared.{given_rest, handed_at, given_handed, given_told, plain_root, Same, RowOverflows, passed_on, overflow_as, spans_append, spans_times, Spans, behind_first}
use Rattle.number_forms.proofs.{Loops.{IsJoined, joined_none, joined_part, joined_all, from_all, read_same}, Worth.{terms_from, rows_next}}
use Rattle.number_forms.proofs.{Rooms.{full_as, spans_from, spans_nth, partial_spanned, row_lacks}, Refusals.{none_kept}, Safety.{after_one, answered, passed}}
use Rattle.number_forms.proofs.multiplying.join_rows.Goals as goal

pub term_count-at-end-requires : goal.term_count-at-end-requires
term_count-at-end-requires g c = record {
  stands = c.requires.stands;
  expression = other_expression c.args.a c.args.pool.now c.requires.stands c.requires.sum c.requires.first;
  number = ap is_number (plain_root c.args.a c.requires.stands (given_other c.requires.sum c.requires.first).root) ∙ c.requires.first_number;
}

pub loop-at-init : goal.loop-at-init
loop-at-init g c = record { joined = joined_none c.args.sum.now (surd_times (value (tree_of c.args.a c.args.pool.now)) (value (tree_of c.args.b c.args.pool.now))) c.args.pool.now c.requires.stands c.requires.sum; lists = c.requires.lists }

pub nth_term-term-requires : goal.nth_term-term-requires
nth_term-term-requires g c = record {
  stands = c.loop-at.invariant.joined.stands;
  expression = other_expression c.args.a c.loop-at.pool c.loop-at.invariant.joined.stands c.loop-at.invariant.joined.gives c.requires.first;
  number = let same = read_same c.args.a c.loop-at.invariant.joined c.requires.sum c.requires.first in ap is_number same ∙ c.requires.first_number;
  within = let same = ap classes (read_same c.args.a c.loop-at.invariant.joined c.requires.sum c.requires.first) in
      let all = ap classes (plain_root c.args.a c.requires.stands (given_other c.requires.sum c.requires.first).root) in
      omega (arith, same, all, c.term_count-at-end.ensures, c.loop-at-test.true);
}

pub join_products-requires : goal.join_products-requires
join_products-requires g c = (search rules, (c.loop-at.invariant.joined.stands, (gives_rest c.loop-at.invariant.joined.gives (λ t h. h.sum), (c.loop-at.invariant.lists, (handed_at c.requires.second (given_rest c.loop-at.invariant.joined.gives), (ap is_number (other_plain c.args.b c.loop-at.invariant.joined.gives c.requires.second.root ∙ sym (other_plain c.args.b c.requires.sum c.requires.second.root)) ∙ c.requires.second_number, lists_kept c.args.b c.args.pool.now c.loop-at.pool c.requires.stands c.loop-at.invariant.joined.stands c.requires.sum c.loop-at.invariant.joined.gives c.requires.second c.requires.terms))))))

pub loop-at-preserved : goal.loop-at-preserved
loop-at-preserved g c =
    let a : Tree = tree_of c.args.a c.args.pool.now in let b : Tree = tree_of c.args.b c.args.pool.now in let x = term_of c.nth_term-term.result in
    let same = read_same c.args.a c.loop-at.invariant.joined c.requires.sum c.requires.first in
    let here : slice_get (value a) c.loop-at.at ≡ Some x = ap (λ (t : Tree). slice_get (value t) c.loop-at.at) (sym same) ∙ c.nth_term-term.ensures in
    let other = other_plain c.args.b c.loop-at.invariant.joined.gives c.requires.second.root ∙ sym (other_plain c.args.b c.requires.sum c.requires.second.root) in
    let joined = subst (λ (t : Tree). Gives (without_root c.args.sum.now (forest c.loop-at.pool)) (forest c.join_products.new.pool) c.args.sum.now
    (IsSumOf (value (tree_of c.args.sum.now c.loop-at.pool) ++ map (term_times x) (value t)))) other c.in_ok-join_products.ensures.ok in
    let next = joined_part c.args.sum.now _ _ _ _ c.args.pool.now c.loop-at.pool c.join_products.new.pool c.loop-at.invariant.joined
    (rows_next (value a) (value b) c.loop-at.at x here) joined c.join_products.ensures.safe.front c.in_ok-join_products.ensures.safe.kept c.join_products.ensures.safe.stands in
    record { joined = subst (λ (n : ℕ). IsJoined c.args.sum.now (surd_times (terms_from n (value a)) (value b)) (value (tree_of c.args.sum.now c.args.pool.now) ++ surd_times (value a) (value b)) c.args.pool.now c.join_products.new.pool) (sym (add-one c.loop-at.at)) next; lists = c.in_ok-join_products.ensures.lists }

pub returns : goal.returns
returns g c = record {
  ok = let all = ap classes (plain_root c.args.a c.requires.stands (given_other c.requires.sum c.requires.first).root) in
      let end : length (value (tree_of c.args.a c.args.pool.now)) ≤ c.loop-at.at = omega (arith, all, c.term_count-at-end.ensures, c.loop-at-test.false) in
      joined_all c.loop-at.invariant.joined (ap (λ (v : Surd). surd_times v (value (tree_of c.args.b c.args.pool.now))) (from_all (value (tree_of c.args.a c.args.pool.now)) c.loop-at.at end));
  lists = c.loop-at.invariant.lists;
  overflow = λ a. tt;
  room = λ a b d f. tt;
  safe = let j = c.loop-at.invariant.joined in answered j.front j.kept j.stands;
}

pub returns-in_err-join_products : goal.returns-in_err-join_products
returns-in_err-join_products g c = let r = c.from_residual.result in let e = c.in_err-join_products.field-0.0 in let said = c.from_residual.ensures in record {
  ok = none_kept r _ said.0;
  lists = none_kept r _ said.0;
  overflow = λ empty. let a : Tree = tree_of c.args.a c.args.pool.now in
      let b : Tree = tree_of c.args.b c.args.pool.now in let partial : Tree = tree_of c.args.sum.now c.loop-at.pool in
      let x = term_of c.nth_term-term.result in let same = read_same c.args.a c.loop-at.invariant.joined c.requires.sum c.requires.first in
      let here : slice_get (value a) c.loop-at.at ≡ Some x = ap (λ (t : Tree). slice_get (value t) c.loop-at.at) (sym same) ∙ c.nth_term-term.ensures in
      let other = other_plain c.args.b c.loop-at.invariant.joined.gives c.requires.second.root ∙ sym (other_plain c.args.b c.requires.sum c.requires.second.root) in
      let told = given_told c.loop-at.invariant.joined.gives in
      passed_on r e _ said.0 said.1 (overflow_as c.in_err-join_products.field-0.0 c.in_err-join_products.ensures.overflow (λ o r. record {
        at = c.loop-at.at;
        factor = x;
        here = here;
        partial = partial;
        sum = told.sum;
        worth = subst (λ (v : Surd). Same (value partial ++ surd_times (terms_from c.loop-at.at (value a)) (value b)) (v ++ surd_times (value a) (value b))) empty told.worth;
        parts = subst (λ (v : Surd). SharesDenominators (v ++ surd_times (value a) (value b)) (value partial ++ surd_times (terms_from c.loop-at.at (value a)) (value b))) empty told.parts;
        row = subst (λ (t : Tree). RowOverflows (value partial) x (value t) o) other r;
      }));
  room = λ gs s t u. let a : Tree = tree_of c.args.a c.args.pool.now in
      let b : Tree = tree_of c.args.b c.args.pool.now in let joined = c.loop-at.invariant.joined in
      let same = read_same c.args.a joined c.requires.sum c.requires.first in
      let here : slice_get (value a) c.loop-at.at ≡ Some (term_of c.nth_term-term.result) = ap (λ (t : Tree). slice_get (value t) c.loop-at.at) (sym same) ∙ c.nth_term-term.ensures in
      let other = other_plain c.args.b joined.gives c.requires.second.root ∙ sym (other_plain c.args.b c.requires.sum c.requires.second.root) in
      let left = spans_times gs (terms_from c.loop-at.at (value a)) (value b) (spans_from gs (value a) c.loop-at.at t) u in
      let partial = partial_spanned gs _ _ (tree_of c.args.sum.now c.loop-at.pool) (given_told joined.gives) (spans_append gs _ _ s (spans_times gs (value a) (value b) t u)) left in
      passed_on r e _ said.0 said.1 (full_as c.in_err-join_products.field-0.0 (c.in_err-join_products.ensures.room gs partial (spans_nth gs (value a) c.loop-at.at _ here t) (subst (λ (t : Tree). Spans gs (value t)) (sym other) u))
      (λ full few. row_lacks gs joined c.requires.stands (given_handed c.requires.sum) few));
  safe = let j = c.loop-at.invariant.joined in after_one j.kept behind_first j.front (passed r e said.0 said.1 c.in_err-join_products.ensures.safe);
}
