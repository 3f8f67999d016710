use Rattle.number_forms.proofs.Shared.{◌≡◌, ℕ, ◌≤◌, ◌++◌, Some, length, sym, ap, ◌∙◌, arith, add-one, subst, rules, ◌+◌, slice_get, is_number, value, classes, Same, Surd, SharesDenominators}
use Rattle.number_forms.proofs.Shared.{spans_append, Spans, Tree, SquareRowOverflows, square_row, square_terms, IsSumOf, lists_kept, other_plain, other_expression, gives_rest, passed_on}
use Rattle.number_forms.proofs.Shared.{overflow_as, term_of, tree_of, Gives, without_root, forest, given_other, given_rest, handed_at, given_handed, given_told, plain_root, behind_first}
use Rattle.number_forms.proofs.{Loops.{joined_none, joined_part, joined_all, from_all, read_same}, Rooms.{full_as, spans_from, spans_nth, partial_spanned, row_lacks}, Squares.{spans_square}}
use Rattle.number_forms.proofs.{Worth.{terms_from, from_next}, squaring.join_squares.Goals.{After-listed_term-term}, squaring.join_squares.Given.{Over}, Refusals.{none_kept}}
use Rattle.number_forms.proofs.Safety.{after_one, answered, passed}
use Rattle.number_forms.proofs.squaring.join_squares.Goals as goal

-- the Number as it stands now
same : (g : Over) (c : After-listed_term-term g) → tree_of c.args.number c.loop-at.pool ≡ tree_of c.args.number c.args.pool.now
same g c = other_plain c.args.number c.loop-at.invariant.joined.gives c.requires.handed.root ∙ sym (other_plain c.args.number c.requires.sum c.requires.handed.root)

here : (g : Over) (c : After-listed_term-term g) → slice_get (value (tree_of c.args.number c.args.pool.now)) c.loop-at.at ≡ Some (term_of c.listed_term-term.result)
here g c =
    let read = read_same c.args.number c.loop-at.invariant.joined c.requires.sum c.requires.handed in ap (λ (t : Tree). slice_get (value t) c.loop-at.at) (sym read) ∙ c.listed_term-term.ensures

pub term_count-at-end-requires : goal.term_count-at-end-requires
term_count-at-end-requires g c = record {
  stands = c.requires.stands;
  expression = other_expression c.args.number c.args.pool.now c.requires.stands c.requires.sum c.requires.handed;
  number = ap is_number (plain_root c.args.number c.requires.stands (given_other c.requires.sum c.requires.handed).root) ∙ c.requires.number;
}

pub loop-at-init : goal.loop-at-init
loop-at-init g c = record { joined = joined_none c.args.sum.now (square_terms (value (tree_of c.args.number c.args.pool.now))) c.args.pool.now c.requires.stands c.requires.sum; lists = c.requires.lists }

pub listed_term-term-requires : goal.listed_term-term-requires
listed_term-term-requires g c =
    let joined = c.loop-at.invariant.joined in let read = read_same c.args.number joined c.requires.sum c.requires.handed in
    let all = ap classes (plain_root c.args.number c.requires.stands (given_other c.requires.sum c.requires.handed).root) in
    (search rules, (joined.stands, (other_expression c.args.number c.loop-at.pool joined.stands joined.gives c.requires.handed, (ap is_number read ∙ c.requires.number, (lists_kept c.args.number c.args.pool.now c.loop-at.pool c.requires.stands joined.stands c.requires.sum joined.gives c.requires.handed c.requires.terms, omega (arith, ap classes read, all, c.term_count-at-end.ensures, c.loop-at-test.true))))))

pub join_square_row-requires : goal.join_square_row-requires
join_square_row-requires g c =
    let joined = c.loop-at.invariant.joined in let at = (goal.at.join_square_row-requires g c).After-listed_term-term in
    (search rules, (joined.stands, (gives_rest joined.gives (λ t h. h.sum), (c.loop-at.invariant.lists, (handed_at c.requires.handed (given_rest joined.gives), (ap is_number (same g at) ∙ c.requires.number, lists_kept c.args.number c.args.pool.now c.loop-at.pool c.requires.stands joined.stands c.requires.sum joined.gives c.requires.handed c.requires.terms))))))

pub loop-at-preserved : goal.loop-at-preserved
loop-at-preserved g c =
    let at = (goal.at.loop-at-preserved g c).After-listed_term-term in let v = value (tree_of c.args.number c.args.pool.now) in
    let x = term_of c.listed_term-term.result in let later : c.loop-at.at + 1 ≡ _ = add-one c.loop-at.at in
    let row = subst (λ (t : Tree). Gives (without_root c.args.sum.now (forest c.loop-at.pool)) (forest c.join_square_row.new.pool) c.args.sum.now
    (IsSumOf (value (tree_of c.args.sum.now c.loop-at.pool) ++ square_row x (terms_from (c.loop-at.at + 1) (value t))))) (same g at) c.in_ok-join_square_row.ensures.ok in
    let next : square_terms (terms_from c.loop-at.at v) ≡ square_row x (terms_from (c.loop-at.at + 1) v) ++ square_terms (terms_from (c.loop-at.at + 1) v) =
    ap square_terms (from_next v c.loop-at.at x (here g at)) ∙ ap (λ (n : ℕ). square_row x (terms_from n v) ++ square_terms (terms_from n v)) (sym later) in
    record {
      joined = joined_part c.args.sum.now _ _ _ _ c.args.pool.now c.loop-at.pool c.join_square_row.new.pool c.loop-at.invariant.joined next row c.join_square_row.ensures.safe.front c.in_ok-join_square_row.ensures.safe.kept c.join_square_row.ensures.safe.stands;
      lists = c.in_ok-join_square_row.ensures.lists;
    }

pub returns : goal.returns
returns g c = record {
  ok = let v = value (tree_of c.args.number c.args.pool.now) in
      let all = ap classes (plain_root c.args.number c.requires.stands (given_other c.requires.sum c.requires.handed).root) in
      let end : length v ≤ c.loop-at.at = omega (arith, all, c.term_count-at-end.ensures, c.loop-at-test.false) in
      joined_all c.loop-at.invariant.joined (ap square_terms (from_all v c.loop-at.at end));
  lists = c.loop-at.invariant.lists;
  overflow = λ a. tt;
  room = λ a b d. tt;
  safe = let j = c.loop-at.invariant.joined in answered j.front j.kept j.stands;
}

pub returns-in_err-join_square_row : goal.returns-in_err-join_square_row
returns-in_err-join_square_row g c = let r = c.from_residual.result in let e = c.in_err-join_square_row.field-0.0 in let said = c.from_residual.ensures in record {
  ok = none_kept r _ said.0;
  lists = none_kept r _ said.0;
  overflow = λ empty. let at = (goal.at.returns-in_err-join_square_row g c).After-listed_term-term in
      let v = value (tree_of c.args.number c.args.pool.now) in let partial : Tree = tree_of c.args.sum.now c.loop-at.pool in
      let left = square_terms (terms_from c.loop-at.at v) in let x = term_of c.listed_term-term.result in
      let told = given_told c.loop-at.invariant.joined.gives in
      passed_on r e _ said.0 said.1 (overflow_as c.in_err-join_square_row.field-0.0 c.in_err-join_square_row.ensures.overflow (λ o r. record {
        at = c.loop-at.at;
        factor = x;
        here = here g at;
        partial = partial;
        sum = told.sum;
        worth = subst (λ (u : Surd). Same (value partial ++ left) (u ++ square_terms v)) empty told.worth;
        parts = subst (λ (u : Surd). SharesDenominators (u ++ square_terms v) (value partial ++ left)) empty told.parts;
        row = subst (λ (n : ℕ). SquareRowOverflows partial x (terms_from n v) o) (add-one c.loop-at.at)
            (subst (λ (t : Tree). SquareRowOverflows partial x (terms_from (c.loop-at.at + 1) (value t)) o) (same g at) r);
      }));
  room = λ gs s t. let at = (goal.at.returns-in_err-join_square_row g c).After-listed_term-term in
      let v = value (tree_of c.args.number c.args.pool.now) in let joined = c.loop-at.invariant.joined in
      let left = spans_square gs (terms_from c.loop-at.at v) (spans_from gs v c.loop-at.at t) in
      let partial = partial_spanned gs _ _ (tree_of c.args.sum.now c.loop-at.pool) (given_told joined.gives) (spans_append gs _ _ s (spans_square gs v t)) left in
      passed_on r e _ said.0 said.1 (full_as c.in_err-join_square_row.field-0.0 (c.in_err-join_square_row.ensures.room gs partial (spans_nth gs v c.loop-at.at _ (here g at) t) (subst (λ (x : Tree). Spans gs (value x)) (sym (same g at)) t))
      (λ full few. row_lacks gs joined c.requires.stands (given_handed c.requires.sum) few));
  safe = let j = c.loop-at.invariant.joined in after_one j.kept behind_first j.front (passed r e said.0 said.1 c.in_err-join_square_row.ensures.safe);
}
