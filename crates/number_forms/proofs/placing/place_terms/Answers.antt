use Rattle.number_forms.proofs.Shared.{◌≡◌, ◌<◌, ◌∙◌, length, refl, sym, ap, arith, pos, count, eq-eqb, eqb-true, num, free_of, front_end, front_same, gives_as, passed_on, trees_of, kept_after}
use Rattle.number_forms.proofs.{Shared.{num_most, refused_below, root_size, value_of}, ListedTerms.{count_trees, no_tree_of, one_tree_of, sum_tree_of}, Placings.{if_tree}}
use Rattle.number_forms.proofs.{Planted.{adopts, can_adopt, node_free}, TermTrees.{if_gives}, placing.place_terms.Goals.{In_ok-placed}, Refusals.{none_given}, Rooms.{refusal_as}}
use Rattle.number_forms.proofs.Safety.{after_placing, one_placed, passed_placing, placed, refused_placing}
use Rattle.surd_terms.proofs.Rationals.{whole_value as whole_is}
use Rattle.number_forms.proofs.placing.place_terms.Goals as goal

pub returns-then-terms-eq1-clause-ok : goal.returns-then-terms-eq1-clause-ok
returns-then-terms-eq1-clause-ok c =
    if_tree c.place_term.result _ c.place_term.new.pool _ _ _ c.place_term.ensures.ok c.place_term.ensures.tree
    (one_tree_of c.args.terms.now c.index-terms-0.result c.if-terms-eq1.true c.index-terms-0.is)

many : (c : In_ok-placed) → c.in_ok-placed.placed ≡ count (trees_of c.args.terms.now)
many c = c.in_ok-placed.ensures.count ∙ sym (count_trees c.args.terms.now)

pub adopt-requires-clause-root : goal.adopt-requires-clause-root
adopt-requires-clause-root c = (can_adopt c.in_ok-sum.ensures.ok c.in_ok-placed.ensures.ok (many (goal.at.adopt-requires-clause-root c).In_ok-placed)).root

pub adopt-requires-clause-within : goal.adopt-requires-clause-within
adopt-requires-clause-within c = (can_adopt c.in_ok-sum.ensures.ok c.in_ok-placed.ensures.ok (many (goal.at.adopt-requires-clause-within c).In_ok-placed)).within

pub returns-in_err-sum : goal.returns-in_err-sum
returns-in_err-sum c = let r = c.from_residual.result in let e = c.in_err-sum.field-0.0 in let said = c.from_residual.ensures in record {
  ok = none_given r _ said.0;
  room = passed_on r e _ said.0 said.1 (let few : free_of c.args.pool.now < 8 = refused_below c.in_err-sum.ensures.full in omega (arith, few));
  safe = refused_placing r e said.0 said.1 c.in_err-sum.ensures.full c.node.ensures.stands;
}

pub returns-in_err-placed : goal.returns-in_err-placed
returns-in_err-placed c = let r = c.from_residual-in_err-placed.result in let e = c.in_err-placed.field-0.0 in let said = c.from_residual-in_err-placed.ensures in record {
  ok = none_given r _ said.0;
  room = let free = node_free c.requires.stands c.in_ok-sum.ensures.stands c.in_ok-sum.ensures.kept c.in_ok-sum.ensures.ok in
      passed_on r e _ said.0 said.1 (omega (arith, free, c.in_err-placed.ensures.room));
  safe = after_placing c.in_ok-sum.ensures.kept c.node.ensures.front (passed_placing r e said.0 said.1 c.in_err-placed.ensures.safe);
}

pub returns-then-is_empty : goal.returns-then-is_empty
returns-then-is_empty c = record {
  ok = let none = eqb-true (length c.args.terms.now) 0 (sym c.is_empty.ensures ∙ c.if-is_empty.true) in
      if_gives c.number.result _ _ _ _ c.number.ensures.given (λ t e. e ∙ ap num (whole_is c.whole.result (pos 0) c.whole.ensures) ∙ no_tree_of c.args.terms.now none);
  room = refusal_as c.number.result c.number.ensures.full (λ full r. let few : free_of c.args.pool.now < root_size (num (value_of c.whole.result)) = refused_below r in
      omega (arith, few, num_most (value_of c.whole.result)));
  safe = one_placed _ c.number.result c.number.ensures.kept c.number.ensures.full c.number.ensures.front c.number.ensures.stands;
}

pub returns : goal.returns
returns c = record {
  ok = let ts = c.args.terms.now in
      gives_as (adopts c.in_ok-sum.ensures.ok c.in_ok-placed.ensures.ok (many (goal.at.returns c).In_ok-placed) refl c.adopt.ensures.forest) refl
      (λ t e. e ∙ sum_tree_of ts (λ z. absurd (cc (sym c.is_empty.ensures ∙ c.if-is_empty.false, eq-eqb (length ts) 0 z))) c.if-terms-eq1.false);
  room = tt;
  safe = placed (front_end (adopts c.in_ok-sum.ensures.ok c.in_ok-placed.ensures.ok (many (goal.at.returns c).In_ok-placed) refl c.adopt.ensures.forest).ends front_same) (kept_after c.in_ok-sum.ensures.kept (kept_after c.in_ok-placed.ensures.safe.kept c.adopt.ensures.kept)) c.adopt.ensures.stands;
}

pub returns-then-terms-eq1-clause-safe : goal.returns-then-terms-eq1-clause-safe
returns-then-terms-eq1-clause-safe c = record { front = c.place_term.ensures.front; kept = c.place_term.ensures.kept; full = c.place_term.ensures.full; caused = c.place_term.ensures.caused; stands = c.place_term.ensures.stands }
