use Rattle.number_forms.proofs.Shared.{◌≡◌, [], ◌∷◌, ◌++◌, map, inl, inr, refl, sym, ap, ◌∙◌, subst, rules, is_number, value, Term, Surd, term_times, Same-refl, spans_append, IsSpanned, Spans}
use Rattle.number_forms.proofs.Shared.{Tree, terms_from, RowOverflows, twice, square_row, IsSumOf, lists_kept, kept_after, overflow_as, other_plain, gives_rest, passed_on, term_of, tree_of, Gives}
use Rattle.number_forms.proofs.Shared.{without_root, forest, behind_first, front_after_one, given_handed, given_rest, given_told, gives_as, handed_at, front_same, kept_same}
use Rattle.number_forms.proofs.{Loops.{IsJoined, joined_none, joined_more, joined_part, joined_all}, Rooms.{full_as, spans_from, partial_spanned, term_lacks, row_lacks}}
use Rattle.number_forms.proofs.{Rows.{nothing_more, joined_extracted}, Squares.{spans_square_row}, Twice.{twice_refused}, squaring.join_square_row.Goals.{In_ok-join_term}}
use Rattle.number_forms.proofs.{squaring.join_square_row.Given.{Over}, Refusals.{none_kept}, Safety.{after_one, answered, overflowed, passed}}
use Rattle.tree_handles.specs.declared.fault.NumberFault.TheVariants as fault
use Rattle.number_forms.proofs.squaring.join_square_row.Goals as goal

-- the sum with the square of the term
summed : (g : Over) (c : In_ok-join_term g)
    → Gives (without_root c.args.sum.now (forest c.args.pool.now)) (forest c.join_term.new.pool) c.args.sum.now (IsSumOf (term_times (term_of c.args.term) (term_of c.args.term) ∷ value (tree_of c.args.sum.now c.args.pool.now)))
summed g c = gives_as c.in_ok-join_term.ensures.ok refl (λ t h. joined_extracted c.in_ok-square.ensures.product c.in_ok-square.ensures.extracted h)

joined : (g : Over) (c : In_ok-join_term g)
    → IsJoined c.args.sum.now (map (term_times (twice (term_of c.args.term))) (terms_from c.args.from (value (tree_of c.args.number c.args.pool.now)))) (value (tree_of c.args.sum.now c.args.pool.now) ++ square_row (term_of c.args.term) (terms_from c.args.from (value (tree_of c.args.number c.args.pool.now)))) c.args.pool.now c.join_term.new.pool
joined g c =
    let x : Term = term_of c.args.term in let row : Surd = square_row x (terms_from c.args.from (value (tree_of c.args.number c.args.pool.now))) in
    joined_more c.args.sum.now row _ _ _ (term_times x x) c.args.pool.now c.args.pool.now c.join_term.new.pool
    (joined_none c.args.sum.now row c.args.pool.now c.requires.stands c.requires.sum) refl (Same-refl _) (λ d p. p)
    (summed g c) c.join_term.ensures.safe.front c.in_ok-join_term.ensures.safe.kept c.join_term.ensures.safe.stands

-- the Number as it stands then
same : (g : Over) (c : In_ok-join_term g) → tree_of c.args.number c.join_term.new.pool ≡ tree_of c.args.number c.args.pool.now
same g c = other_plain c.args.number (joined g c).gives c.requires.handed.root ∙ sym (other_plain c.args.number c.requires.sum c.requires.handed.root)

pub join_term-requires : goal.join_term-requires
join_term-requires g c = (search rules, (c.requires.stands, (c.requires.sum, c.requires.lists)))

pub join_products-requires : goal.join_products-requires
join_products-requires g c =
    let at = (goal.at.join_products-requires g c).In_ok-join_term in let sum = joined g at in
    (search rules, (sum.stands, (gives_rest sum.gives (λ t h. h.sum), (c.in_ok-join_term.ensures.lists, (handed_at c.requires.handed (given_rest sum.gives), (ap is_number (same g at) ∙ c.requires.number, lists_kept c.args.number c.args.pool.now c.join_term.new.pool c.requires.stands sum.stands c.requires.sum sum.gives c.requires.handed c.requires.terms))))))

pub returns-in_err-double : goal.returns-in_err-double
returns-in_err-double g c = absurd (twice_refused c.args.term c.in_ok-square.square c.in_ok-square.ensures.extracted (c.in_err-double.ensures.refused.0 refl))

pub returns-in_err-square : goal.returns-in_err-square
returns-in_err-square g c = let r = c.from_residual.result in let e = fault.Overflow c.in_err-square.field-0.0 in let said = c.from_residual.ensures in record {
  ok = none_kept r _ said.0;
  lists = none_kept r _ said.0;
  overflow = passed_on r e _ said.0 said.1 (inl c.in_err-square.ensures.overflow);
  room = λ gs s h t. passed_on r e _ said.0 said.1 tt;
  safe = overflowed r c.in_err-square.field-0.0 said.0 said.1 c.in_err-square.ensures.caused front_same (kept_same c.args.pool.now) c.requires.stands;
}

pub returns-in_err-join_term : goal.returns-in_err-join_term
returns-in_err-join_term g c = let r = c.from_residual-in_err-join_term.result in let e = c.in_err-join_term.field-0.0 in let said = c.from_residual-in_err-join_term.ensures in record {
  ok = none_kept r _ said.0;
  lists = none_kept r _ said.0;
  overflow = passed_on r e _ said.0 said.1 (overflow_as c.in_err-join_term.field-0.0 c.in_err-join_term.ensures.overflow (λ o j. inr (inl (record { product = term_of c.in_ok-square.square; extracted = c.in_ok-square.ensures.extracted; joined = j }))));
  room = λ gs s h t. let x : Term = term_of c.args.term in
      let w : Surd = terms_from c.args.from (value (tree_of c.args.number c.args.pool.now)) in
      let row : Spans gs (square_row x w) = spans_square_row gs x w h (spans_from gs _ c.args.from t) in
      passed_on r e _ said.0 said.1 (full_as c.in_err-join_term.field-0.0 c.in_err-join_term.ensures.room (λ full few. term_lacks gs (joined_none c.args.sum.now (square_row x w) c.args.pool.now c.requires.stands c.requires.sum) c.requires.stands (given_handed c.requires.sum) (spans_append gs _ (square_row x w) s row) row few));
  safe = passed r e said.0 said.1 c.in_err-join_term.ensures.safe;
}

pub returns-in_err-join_products : goal.returns-in_err-join_products
returns-in_err-join_products g c =
    let r = c.from_residual-in_err-join_products.result in let e = c.in_err-join_products.field-0.0 in let said = c.from_residual-in_err-join_products.ensures in record {
      ok = none_kept r _ said.0;
      lists = none_kept r _ said.0;
      overflow = let at = (goal.at.returns-in_err-join_products g c).In_ok-join_term in
          let partial : Tree = tree_of c.args.sum.now c.join_term.new.pool in let v = value (tree_of c.args.number c.args.pool.now) in
          passed_on r e _ said.0 said.1 (overflow_as c.in_err-join_products.field-0.0 c.in_err-join_products.ensures.overflow (λ o r. inr (inr (record {
            partial = partial;
            with_square = given_told (summed g at);
            row = subst (λ (y : Term). RowOverflows (value partial) y (terms_from c.args.from v) o) c.in_ok-double.ensures.sum
                (subst (λ (t : Tree). RowOverflows (value partial) (term_of c.in_ok-double.double) (terms_from c.args.from (value t)) o) (same g at) r);
          }))));
      room = λ gs s h t. let at = (goal.at.returns-in_err-join_products g c).In_ok-join_term in
          let x : Term = term_of c.args.term in let w : Surd = terms_from c.args.from (value (tree_of c.args.number c.args.pool.now)) in
          let row : Spans gs (square_row x w) = spans_square_row gs x w h (spans_from gs _ c.args.from t) in
          let partial = partial_spanned gs (map (term_times (twice x)) w) _ (tree_of c.args.sum.now c.join_term.new.pool) (given_told (joined g at).gives) (spans_append gs _ (square_row x w) s row) row.1 in
          let double = subst (λ (y : Term). IsSpanned gs y.radicand) (sym c.in_ok-double.ensures.sum) h in
          passed_on r e _ said.0 said.1 (full_as c.in_err-join_products.field-0.0 (c.in_err-join_products.ensures.room gs partial double (subst (λ (u : Tree). Spans gs (value u)) (sym (same g at)) t))
          (λ full few. row_lacks gs (joined g at) c.requires.stands (given_handed c.requires.sum) few));
      safe = after_one c.in_ok-join_term.ensures.safe.kept behind_first c.join_term.ensures.safe.front (passed r e said.0 said.1 c.in_err-join_products.ensures.safe);
    }

pub returns : goal.returns
returns g c = record {
  ok = let at = (goal.at.returns g c).In_ok-join_term in let x : Term = term_of c.args.term in
      let v = value (tree_of c.args.number c.args.pool.now) in
      let one = subst (λ (t : Tree). Gives (without_root c.args.sum.now (forest c.join_term.new.pool)) (forest c.join_products.new.pool) c.args.sum.now
      (IsSumOf (value (tree_of c.args.sum.now c.join_term.new.pool) ++ map (term_times (term_of c.in_ok-double.double)) (terms_from c.args.from (value t)))))
      (same g at) c.in_ok-join_products.ensures.ok in
      let mixed = subst (λ (y : Term). Gives (without_root c.args.sum.now (forest c.join_term.new.pool)) (forest c.join_products.new.pool) c.args.sum.now
      (IsSumOf (value (tree_of c.args.sum.now c.join_term.new.pool) ++ map (term_times y) (terms_from c.args.from v)))) c.in_ok-double.ensures.sum one in
      joined_all (joined_part c.args.sum.now _ _ [] _ c.args.pool.now c.join_term.new.pool c.join_products.new.pool (joined g at)
      (nothing_more _) mixed c.join_products.ensures.safe.front c.in_ok-join_products.ensures.safe.kept c.join_products.ensures.safe.stands) refl;
  lists = c.in_ok-join_products.ensures.lists;
  overflow = tt;
  room = λ gs s h t. tt;
  safe = answered (front_after_one behind_first c.join_term.ensures.safe.front c.join_products.ensures.safe.front) (kept_after c.in_ok-join_term.ensures.safe.kept c.in_ok-join_products.ensures.safe.kept) c.join_products.ensures.safe.stands;
}
