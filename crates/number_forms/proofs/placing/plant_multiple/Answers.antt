use Rattle.number_forms.proofs.Shared.{rules, ◌<◌, ap, refl, arith, forest, free_of, front_end, front_same, given_free, given_told, passed_on, size, value_of, num_bytes, front_after, kept_after}
use Rattle.number_forms.proofs.{Shared.{refused_below}, Planted.{adds_more, adds_none, adopts, can_adopt, node_free, number_refused}, Refusals.{none_given}}
use Rattle.number_forms.proofs.Safety.{after_placing, passed_placing, placed, refused_placing}
use Rattle.number_forms.proofs.placing.plant_multiple.Goals as goal

pub adopt-requires : goal.adopt-requires
adopt-requires c =
    let a = can_adopt c.in_ok-product.ensures.ok (adds_more (adds_more (adds_none (forest c.node.new.pool)) c.in_ok-_coefficient.ensures.given) c.in_ok-_root.ensures.ok) refl in
    record { stands = search rules; root = a.root; within = a.within }

pub returns-in_err-product : goal.returns-in_err-product
returns-in_err-product c = let r = c.from_residual.result in let e = c.in_err-product.field-0.0 in let said = c.from_residual.ensures in record {
  ok = none_given r _ said.0;
  room = passed_on r e _ said.0 said.1 (let few : free_of c.args.pool.now < 8 = refused_below c.in_err-product.ensures.full in omega (arith, few));
  safe = refused_placing r e said.0 said.1 c.in_err-product.ensures.full c.node.ensures.stands;
}

pub returns-in_err-_coefficient : goal.returns-in_err-_coefficient
returns-in_err-_coefficient c = let r = c.from_residual-in_err-_coefficient.result in let e = c.in_err-_coefficient.field-0.0 in let said = c.from_residual-in_err-_coefficient.ensures in record {
  ok = none_given r _ said.0;
  room = let free = node_free c.requires.stands c.in_ok-product.ensures.stands c.in_ok-product.ensures.kept c.in_ok-product.ensures.ok in
      passed_on r e _ said.0 said.1 (omega (arith, free, number_refused c.args.coefficient c.in_err-_coefficient.ensures.full));
  safe = after_placing c.in_ok-product.ensures.kept c.node.ensures.front (refused_placing r e said.0 said.1 c.in_err-_coefficient.ensures.full c.number.ensures.stands);
}

pub returns-in_err-_root : goal.returns-in_err-_root
returns-in_err-_root c = let r = c.from_residual-in_err-_root.result in let e = c.in_err-_root.field-0.0 in let said = c.from_residual-in_err-_root.ensures in record {
  ok = none_given r _ said.0;
  room = let free = node_free c.requires.stands c.in_ok-product.ensures.stands c.in_ok-product.ensures.kept c.in_ok-product.ensures.ok in
      let left = given_free c.in_ok-product.ensures.stands c.in_ok-_coefficient.ensures.stands c.in_ok-_coefficient.ensures.kept c.in_ok-_coefficient.ensures.given in
      passed_on r e _ said.0 said.1 (omega (arith, free, left, ap size (given_told c.in_ok-_coefficient.ensures.given), num_bytes (value_of c.args.coefficient), c.in_err-_root.ensures.room));
  safe = after_placing (kept_after c.in_ok-product.ensures.kept c.in_ok-_coefficient.ensures.kept) (front_after c.node.ensures.front c.number.ensures.front) (passed_placing r e said.0 said.1 c.in_err-_root.ensures.safe);
}

pub returns : goal.returns
returns c = record {
  ok = adopts c.in_ok-product.ensures.ok (adds_more (adds_more (adds_none (forest c.node.new.pool)) c.in_ok-_coefficient.ensures.given) c.in_ok-_root.ensures.ok) refl refl c.adopt.ensures.forest;
  room = tt;
  safe = placed (front_end (adopts c.in_ok-product.ensures.ok (adds_more (adds_more (adds_none (forest c.node.new.pool)) c.in_ok-_coefficient.ensures.given) c.in_ok-_root.ensures.ok) refl refl c.adopt.ensures.forest).ends front_same) (kept_after c.in_ok-product.ensures.kept (kept_after c.in_ok-_coefficient.ensures.kept (kept_after c.in_ok-_root.ensures.safe.kept c.adopt.ensures.kept))) c.adopt.ensures.stands;
}
