use Rattle.number_forms.proofs.Shared.{◌≡◌, ℕ, ◌≤◌, ◌∷◌, Some, length, sym, ap, ◌∙◌, arith, add-one, rules, slice_get, is_number, value, classes, Tree, Same-refl, lists_kept, lists_listed}
use Rattle.number_forms.proofs.Shared.{other_expression, gives_rest, tree_of, term_of, given_other, given_handed, given_told, plain_root, passed_on, overflow_as, spans_append, behind_first}
use Rattle.number_forms.proofs.{Loops.{joined_none, joined_more, joined_all, from_all, read_same}, Worth.{terms_from, from_next}, Rooms.{full_as, spans_from, term_lacks}, Refusals.{none_kept}}
use Rattle.number_forms.proofs.Safety.{after_one, answered, passed}
use Rattle.number_forms.proofs.adding.join_terms.Goals as goal

pub term_count-at-end-requires : goal.term_count-at-end-requires
term_count-at-end-requires g c = record {
  stands = c.requires.stands;
  expression = other_expression c.args.number c.args.pool.now c.requires.stands c.requires.sum c.requires.handed;
  number = ap is_number (plain_root c.args.number c.requires.stands (given_other c.requires.sum c.requires.handed).root) ∙ c.requires.number;
}

pub loop-at-init : goal.loop-at-init
loop-at-init g c = record { joined = joined_none c.args.sum.now (value (tree_of c.args.number c.args.pool.now)) c.args.pool.now c.requires.stands c.requires.sum; lists = c.requires.lists }

pub listed_term-term-requires : goal.listed_term-term-requires
listed_term-term-requires g c = (search rules, (c.loop-at.invariant.joined.stands, (other_expression c.args.number c.loop-at.pool c.loop-at.invariant.joined.stands c.loop-at.invariant.joined.gives c.requires.handed, ((let same = read_same c.args.number c.loop-at.invariant.joined c.requires.sum c.requires.handed in ap is_number same ∙ c.requires.number), (lists_kept c.args.number c.args.pool.now c.loop-at.pool c.requires.stands c.loop-at.invariant.joined.stands c.requires.sum c.loop-at.invariant.joined.gives c.requires.handed (lists_listed _ c.of-terms.ensures), (let same = ap classes (read_same c.args.number c.loop-at.invariant.joined c.requires.sum c.requires.handed) in let all = ap classes (plain_root c.args.number c.requires.stands (given_other c.requires.sum c.requires.handed).root) in omega (arith, same, all, c.term_count-at-end.ensures, c.loop-at-test.true)))))))

pub join_term-requires : goal.join_term-requires
join_term-requires g c = (search rules, (c.loop-at.invariant.joined.stands, (gives_rest c.loop-at.invariant.joined.gives (λ t h. h.sum), c.loop-at.invariant.lists)))

pub loop-at-preserved : goal.loop-at-preserved
loop-at-preserved g c =
    let number : Tree = tree_of c.args.number c.args.pool.now in
    let same = read_same c.args.number c.loop-at.invariant.joined c.requires.sum c.requires.handed in
    let here : slice_get (value number) c.loop-at.at ≡ Some (term_of c.listed_term-term.result) = ap (λ (t : Tree). slice_get (value t) c.loop-at.at) (sym same) ∙ c.listed_term-term.ensures in
    let next = from_next (value number) c.loop-at.at (term_of c.listed_term-term.result) here
    ∙ ap (λ (n : ℕ). term_of c.listed_term-term.result ∷ terms_from n (value number)) (sym (add-one c.loop-at.at)) in
    record { joined = joined_more c.args.sum.now _ _ _ _ (term_of c.listed_term-term.result) c.args.pool.now c.loop-at.pool c.join_term.new.pool c.loop-at.invariant.joined next (Same-refl _) (λ d p. p) c.in_ok-join_term.ensures.ok c.join_term.ensures.safe.front c.in_ok-join_term.ensures.safe.kept c.join_term.ensures.safe.stands; lists = c.in_ok-join_term.ensures.lists }

pub returns : goal.returns
returns g c = record {
  ok = let all = ap classes (plain_root c.args.number c.requires.stands (given_other c.requires.sum c.requires.handed).root) in
      let end : length (value (tree_of c.args.number c.args.pool.now)) ≤ c.loop-at.at = omega (arith, all, c.term_count-at-end.ensures, c.loop-at-test.false) in
      joined_all c.loop-at.invariant.joined (from_all (value (tree_of c.args.number c.args.pool.now)) c.loop-at.at end);
  lists = c.loop-at.invariant.lists;
  overflow = tt;
  room = λ a b d. tt;
  safe = let j = c.loop-at.invariant.joined in answered j.front j.kept j.stands;
}

pub of-terms-requires : goal.of-terms-requires
of-terms-requires g c = (search rules, (c.requires.stands, other_expression c.args.number c.args.pool.now c.requires.stands c.requires.sum c.requires.handed))

pub returns-in_err-join_term : goal.returns-in_err-join_term
returns-in_err-join_term g c = let r = c.from_residual.result in let e = c.in_err-join_term.field-0.0 in let said = c.from_residual.ensures in record {
  ok = none_kept r _ said.0;
  lists = none_kept r _ said.0;
  overflow = let number : Tree = tree_of c.args.number c.args.pool.now in
      let same = read_same c.args.number c.loop-at.invariant.joined c.requires.sum c.requires.handed in
      let here : slice_get (value number) c.loop-at.at ≡ Some (term_of c.listed_term-term.result) = ap (λ (t : Tree). slice_get (value t) c.loop-at.at) (sym same) ∙ c.listed_term-term.ensures in
      let told = given_told c.loop-at.invariant.joined.gives in
      passed_on r e _ said.0 said.1 (overflow_as c.in_err-join_term.field-0.0 c.in_err-join_term.ensures.overflow (λ o j. record {
        at = c.loop-at.at;
        next = term_of c.listed_term-term.result;
        here = here;
        partial = tree_of c.args.sum.now c.loop-at.pool;
        sum = told.sum;
        worth = told.worth;
        parts = told.parts;
        joined = j;
      }));
  room = λ gs s t. passed_on r e _ said.0 said.1 (full_as c.in_err-join_term.field-0.0 c.in_err-join_term.ensures.room
      (λ full few. term_lacks gs c.loop-at.invariant.joined c.requires.stands (given_handed c.requires.sum) (spans_append gs _ _ s t)
      (spans_from gs (value (tree_of c.args.number c.args.pool.now)) c.loop-at.at t) few));
  safe = let j = c.loop-at.invariant.joined in after_one j.kept behind_first j.front (passed r e said.0 said.1 c.in_err-join_term.ensures.safe);
}
