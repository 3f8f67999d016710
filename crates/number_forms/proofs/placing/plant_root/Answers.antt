use Rattle.number_forms.proofs.Shared.{rules, ap, refl, arith, ◌∙◌, forest, front_end, front_same, gives_as, passed_on, num, root, kept_after}
use Rattle.number_forms.proofs.{Planted.{adds_more, adds_none, adopts, can_adopt, node_free, number_refused}, Refusals.{none_given}, Safety.{after_placing, placed, refused_placing}}
use Rattle.number_forms.proofs.placing.plant_root.Goals as goal

pub adopt-requires : goal.adopt-requires
adopt-requires c =
    let a = can_adopt c.in_ok-root.ensures.ok (adds_more (adds_none (forest c.node.new.pool)) c.in_ok-_radicand.ensures.given) refl in
    record { stands = search rules; root = a.root; within = a.within }

pub returns-in_err-root : goal.returns-in_err-root
returns-in_err-root c = let r = c.from_residual.result in let e = c.in_err-root.field-0.0 in let said = c.from_residual.ensures in record {
  ok = none_given r _ said.0;
  room = search rules;
  safe = refused_placing r e said.0 said.1 c.in_err-root.ensures.full c.node.ensures.stands;
}

pub returns-in_err-_radicand : goal.returns-in_err-_radicand
returns-in_err-_radicand c = let r = c.from_residual-in_err-_radicand.result in let e = c.in_err-_radicand.field-0.0 in let said = c.from_residual-in_err-_radicand.ensures in record {
  ok = none_given r _ said.0;
  room = let free = node_free c.requires.stands c.in_ok-root.ensures.stands c.in_ok-root.ensures.kept c.in_ok-root.ensures.ok in
      passed_on r e _ said.0 said.1 (omega (arith, free, number_refused c.whole.result c.in_err-_radicand.ensures.full));
  safe = after_placing c.in_ok-root.ensures.kept c.node.ensures.front (refused_placing r e said.0 said.1 c.in_err-_radicand.ensures.full c.number.ensures.stands);
}

pub returns : goal.returns
returns c = record {
  ok = gives_as (adopts c.in_ok-root.ensures.ok (adds_more (adds_none (forest c.node.new.pool)) c.in_ok-_radicand.ensures.given) refl refl c.adopt.ensures.forest) refl
      (λ t e. e ∙ ap (λ q. root (num q)) c.whole.ensures);
  room = tt;
  safe = placed (front_end (adopts c.in_ok-root.ensures.ok (adds_more (adds_none (forest c.node.new.pool)) c.in_ok-_radicand.ensures.given) refl refl c.adopt.ensures.forest).ends front_same) (kept_after c.in_ok-root.ensures.kept (kept_after c.in_ok-_radicand.ensures.kept c.adopt.ensures.kept)) c.adopt.ensures.stands;
}
