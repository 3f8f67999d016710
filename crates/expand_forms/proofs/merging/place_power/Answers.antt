use Rattle.expand_forms.proofs.Shared.{front_after, kept_after, ◌<◌, ap, refl, arith, size, factor_bytes, free_of, refused_below, passed_on, forest, front_end, front_same, given_told, given_free, node_free}
use Rattle.expand_forms.proofs.{Shared.{number_refused}, AddedTrees.{adds_more, adds_none, adopts, can_adopt}}
use Rattle.number_forms.proofs.Safety.{after_placing, no_answer, placed, refused_placing}
use Rattle.expand_forms.proofs.merging.place_power.Goals as goal

pub adopt-requires : goal.adopt-requires
adopt-requires c =
    let a = can_adopt c.in_ok-power.ensures.ok (adds_more (adds_more (adds_none (forest c.node.new.pool)) c.in_ok-_base.ensures.given) c.in_ok-_exponent.ensures.given) refl in
    record { stands = c.in_ok-_exponent.ensures.stands; root = a.root; within = a.within }

pub returns : goal.returns
returns c = record {
  ok = adopts c.in_ok-power.ensures.ok (adds_more (adds_more (adds_none (forest c.node.new.pool)) c.in_ok-_base.ensures.given) c.in_ok-_exponent.ensures.given) refl refl c.adopt.ensures.forest;
  room = tt;
  safe = let given = adopts c.in_ok-power.ensures.ok (adds_more (adds_more (adds_none (forest c.node.new.pool)) c.in_ok-_base.ensures.given) c.in_ok-_exponent.ensures.given) refl refl c.adopt.ensures.forest in
      placed (front_end given.ends front_same)
      (kept_after (kept_after c.in_ok-power.ensures.kept c.in_ok-_base.ensures.kept) (kept_after c.in_ok-_exponent.ensures.kept c.adopt.ensures.kept)) c.adopt.ensures.stands;
}

pub returns-in_err-power : goal.returns-in_err-power
returns-in_err-power c =
    let r = c.from_residual.result in let e = c.in_err-power.field-0.0 in let said = c.from_residual.ensures in
    let few : free_of c.args.pool.now < 8 = refused_below c.in_err-power.ensures.full in record {
      ok = no_answer r _ said.0;
      room = passed_on r e (λ full. free_of c.args.pool.now < factor_bytes) said.0 said.1 (omega (arith, few));
      safe = refused_placing r e said.0 said.1 c.in_err-power.ensures.full c.in_err-power.ensures.stands;
    }

-- ---- few bytes

pub returns-in_err-_base : goal.returns-in_err-_base
returns-in_err-_base c = let r = c.from_residual-in_err-_base.result in let e = c.in_err-_base.field-0.0 in let said = c.from_residual-in_err-_base.ensures in record {
  ok = no_answer r _ said.0;
  room = let free = node_free c.requires.stands c.in_ok-power.ensures.stands c.in_ok-power.ensures.kept c.in_ok-power.ensures.ok in
      passed_on r c.in_err-_base.field-0.0 (λ full. free_of c.args.pool.now < factor_bytes) said.0 said.1 (omega (arith, free, refused_below c.in_err-_base.ensures.full));
  safe = after_placing c.in_ok-power.ensures.kept c.node.ensures.front (refused_placing r e said.0 said.1 c.in_err-_base.ensures.full c.in_err-_base.ensures.stands);
}

pub returns-in_err-_exponent : goal.returns-in_err-_exponent
returns-in_err-_exponent c = let r = c.from_residual-in_err-_exponent.result in let e = c.in_err-_exponent.field-0.0 in let said = c.from_residual-in_err-_exponent.ensures in record {
  ok = no_answer r _ said.0;
  room = let free = node_free c.requires.stands c.in_ok-power.ensures.stands c.in_ok-power.ensures.kept c.in_ok-power.ensures.ok in
      let left = given_free c.in_ok-power.ensures.stands c.in_ok-_base.ensures.stands c.in_ok-_base.ensures.kept c.in_ok-_base.ensures.given in
      passed_on r c.in_err-_exponent.field-0.0 (λ full. free_of c.args.pool.now < factor_bytes) said.0 said.1
      (omega (arith, free, left, ap size (given_told c.in_ok-_base.ensures.given), number_refused c.args.factor.exponent c.in_err-_exponent.ensures.full));
  safe = after_placing (kept_after c.in_ok-power.ensures.kept c.in_ok-_base.ensures.kept) (front_after c.node.ensures.front c.symbol.ensures.front)
      (refused_placing r e said.0 said.1 c.in_err-_exponent.ensures.full c.in_err-_exponent.ensures.stands);
}
