use Rattle.expand_forms.proofs.Shared.{refused_below, ◌<◌, ◌+◌, ◌∙◌, length, refl, sym, ap, arith, eq-eqb, eqb-true, num, free_of, number_bytes, sum_bytes, passed_on, refusal_as, gives_as, front_end, front_same}
use Rattle.expand_forms.proofs.{Shared.{kept_after, if_ok_map, node_free, zero_value}, AddedTrees.{can_adopt, adopts}, PlacedTerms.{all_count, next_lacks, sum_more, sum_none, sum_one}}
use Rattle.expansions.specs.Named.{names_of}
use Rattle.number_forms.proofs.Safety.{after_placing, no_answer, one_placed, passed_placing, placed, refused_placing}
use Rattle.expand_forms.proofs.placing.place_sum.Goals as goal

pub returns-then-is_empty-clause-ok : goal.returns-then-is_empty-clause-ok
returns-then-is_empty-clause-ok c =
    let none = eqb-true (length c.args.terms.now) 0 (sym c.is_empty.ensures ∙ c.if-is_empty.true) in
    if_ok_map c.number.result c.number.ensures.given
    (λ h g. gives_as g refl (λ t e. e ∙ ap num (zero_value c.whole.result c.whole.ensures) ∙ sum_none (names_of c.args.names.now) c.args.terms.now none))

pub returns-then-terms-eq1-clause-ok : goal.returns-then-terms-eq1-clause-ok
returns-then-terms-eq1-clause-ok c =
    if_ok_map c.place_packed.result c.place_packed.ensures.ok (λ h g. gives_as g refl (λ t e. e ∙ sym (sum_one (names_of c.args.names.now) c.args.terms.now _ c.if-terms-eq1.true c.index-terms-0.is)))

pub returns-then-terms-eq1-clause-room : goal.returns-then-terms-eq1-clause-room
returns-then-terms-eq1-clause-room c = λ ns m h.
    refusal_as c.place_packed.result c.place_packed.ensures.room
    (λ full few. omega (arith, next_lacks {i = 0} (names_of c.args.names.now) ns c.args.terms.now _ (free_of c.args.pool.now) (free_of c.args.pool.now) m h (omega (arith, c.if-terms-eq1.true)) c.index-terms-0.is (omega arith) few))

pub adopt-requires-clause-root : goal.adopt-requires-clause-root
adopt-requires-clause-root c = (can_adopt c.in_ok-sum.ensures.ok c.in_ok-placed.ensures.ok (c.in_ok-placed.ensures.count ∙ all_count (names_of c.args.names.now) c.args.terms.now)).root

pub adopt-requires-clause-within : goal.adopt-requires-clause-within
adopt-requires-clause-within c = (can_adopt c.in_ok-sum.ensures.ok c.in_ok-placed.ensures.ok (c.in_ok-placed.ensures.count ∙ all_count (names_of c.args.names.now) c.args.terms.now)).within

pub returns : goal.returns
returns c = record {
  ok = let ns = names_of c.args.names.now in
      let ts = c.args.terms.now in
      gives_as (adopts c.in_ok-sum.ensures.ok c.in_ok-placed.ensures.ok (c.in_ok-placed.ensures.count ∙ all_count ns ts) refl c.adopt.ensures.forest) refl
      (λ t e. e ∙ sum_more ns ts (λ z. absurd (cc (sym c.is_empty.ensures ∙ c.if-is_empty.false, eq-eqb (length ts) 0 z))) c.if-terms-eq1.false);
  room = λ a b d. tt;
  safe = placed (front_end (adopts c.in_ok-sum.ensures.ok c.in_ok-placed.ensures.ok (c.in_ok-placed.ensures.count ∙ all_count (names_of c.args.names.now) c.args.terms.now) refl c.adopt.ensures.forest).ends front_same)
      (kept_after (kept_after c.in_ok-sum.ensures.kept c.in_ok-placed.ensures.safe.kept) c.adopt.ensures.kept) c.adopt.ensures.stands;
}

pub returns-then-is_empty-clause-safe : goal.returns-then-is_empty-clause-safe
returns-then-is_empty-clause-safe c = one_placed _ c.number.result c.number.ensures.kept c.number.ensures.full c.number.ensures.front c.number.ensures.stands

pub returns-in_err-sum : goal.returns-in_err-sum
returns-in_err-sum c =
    let r = c.from_residual.result in let e = c.in_err-sum.field-0.0 in let said = c.from_residual.ensures in
    let few : free_of c.args.pool.now < 8 = refused_below c.in_err-sum.ensures.full in record {
      ok = no_answer r _ said.0;
      room = λ ns m h. passed_on r c.in_err-sum.field-0.0 (λ full. free_of c.args.pool.now < number_bytes + sum_bytes ns (length c.args.terms.now)) said.0 said.1 (omega (arith, few));
      safe = refused_placing r e said.0 said.1 c.in_err-sum.ensures.full c.in_err-sum.ensures.stands;
    }

pub returns-in_err-placed : goal.returns-in_err-placed
returns-in_err-placed c = let r = c.from_residual-in_err-placed.result in let e = c.in_err-placed.field-0.0 in let said = c.from_residual-in_err-placed.ensures in record {
  ok = no_answer r _ said.0;
  room = λ ns m h.
      let free = node_free c.requires.stands c.in_ok-sum.ensures.stands c.in_ok-sum.ensures.kept c.in_ok-sum.ensures.ok in
      passed_on r c.in_err-placed.field-0.0 (λ full. free_of c.args.pool.now < number_bytes + sum_bytes ns (length c.args.terms.now)) said.0 said.1
      (omega (arith, free, c.in_err-placed.ensures.room ns m h));
  safe = after_placing c.in_ok-sum.ensures.kept c.node.ensures.front (passed_placing r e said.0 said.1 c.in_err-placed.ensures.safe);
}
