use Rattle.expand_forms.proofs.Shared.{refused_below, front_after, kept_after, ◌<◌, ◌+◌, ◌∙◌, length, refl, sym, arith, value_of, Monomial, term_bytes, free_of, passed_on, forest, front_end, front_same, AreRead, node_free}
use Rattle.expand_forms.proofs.{Shared.{number_refused}, AddedTrees.{adds_free, adopts, can_adopt}, PlacedFactors.{IsLed, IsPlaced, led_all, led_none, led_number}}
use Rattle.expand_forms.proofs.replacing.place_product.Goals.{In_ok-placed, Joined-not-is_one, then-not-is_one+in_ok-_number, else-not-is_one}
use Rattle.number_forms.proofs.Safety.{after_placing, no_answer, passed_placing, placed as all_placed, refused_placing}
use Rattle.expand_forms.proofs.replacing.place_product.Goals as goal

-- the coefficient
led : (c : Joined-not-is_one) → IsLed (value_of c.args.coefficient) c.if-not-is_one.placed c.node.new.pool c.if-not-is_one.pool
led c =
    elim c.if-not-is_one.branch [
      | then-not-is_one+in_ok-_number w ↦ rw (w.pool-is, w.placed-is)
          (led_number w.number.ensures.stands (sym c.is_one.ensures ∙ w.if-not-is_one.true) w.in_ok-_number.ensures.kept w.number.ensures.front w.in_ok-_number.ensures.given)
      | else-not-is_one w ↦ rw (w.pool-is, w.placed-is) (led_none c.in_ok-product.ensures.stands (sym c.is_one.ensures ∙ w.if-not-is_one.false))
    ]

-- and the factors
placed : (c : In_ok-placed) (m : Monomial) → AreRead c.args.factors.now m
    → IsPlaced (value_of c.args.coefficient) m (c.if-not-is_one.placed + c.in_ok-placed.field-0) (forest c.node.new.pool) (forest c.place_listed.new.pool)
placed c m h = led_all c.place_listed.new.pool c.args.factors.now m (led c.before.before.before.before) h c.requires.some c.in_ok-placed.ensures.count (c.in_ok-placed.ensures.ok m h)

pub adopt-requires : goal.adopt-requires
adopt-requires c =
    let (m, h) = c.requires.monomial in
    let p = placed (goal.at.adopt-requires c).In_ok-placed m h in
    let a = can_adopt c.in_ok-product.ensures.ok p.adds p.many in
    record { stands = c.in_ok-placed.ensures.safe.stands; root = a.root; within = a.within }

pub returns : goal.returns
returns c = record {
  ok = λ m h. let p = placed (goal.at.returns c).In_ok-placed m h in adopts c.in_ok-product.ensures.ok p.adds p.many refl c.adopt.ensures.forest;
  room = tt;
  safe = let (m, h) = c.requires.monomial in
      let p = placed (goal.at.returns c).In_ok-placed m h in
      let l = led (goal.at.returns c).Joined-not-is_one in
      all_placed (front_end (adopts c.in_ok-product.ensures.ok p.adds p.many refl c.adopt.ensures.forest).ends front_same)
      (kept_after (kept_after c.in_ok-product.ensures.kept l.kept) (kept_after c.in_ok-placed.ensures.safe.kept c.adopt.ensures.kept)) c.adopt.ensures.stands;
}

pub returns-in_err-product : goal.returns-in_err-product
returns-in_err-product c =
    let r = c.from_residual.result in let e = c.in_err-product.field-0.0 in let said = c.from_residual.ensures in
    let few : free_of c.args.pool.now < 8 = refused_below c.in_err-product.ensures.full in record {
      ok = λ m h. no_answer r _ said.0;
      room = passed_on r c.in_err-product.field-0.0 (λ full. free_of c.args.pool.now < term_bytes (length c.args.factors.now)) said.0 said.1 (omega (arith, few));
      safe = refused_placing r e said.0 said.1 c.in_err-product.ensures.full c.in_err-product.ensures.stands;
    }

-- ---- few bytes

pub returns-in_err-_number : goal.returns-in_err-_number
returns-in_err-_number c = let r = c.from_residual-in_err-_number.result in let e = c.in_err-_number.field-0.0 in let said = c.from_residual-in_err-_number.ensures in record {
  ok = λ a b. no_answer r _ said.0;
  room = let free = node_free c.requires.stands c.in_ok-product.ensures.stands c.in_ok-product.ensures.kept c.in_ok-product.ensures.ok in
      passed_on r c.in_err-_number.field-0.0 (λ full. free_of c.args.pool.now < term_bytes (length c.args.factors.now)) said.0 said.1
      (omega (arith, free, number_refused c.args.coefficient c.in_err-_number.ensures.full));
  safe = after_placing c.in_ok-product.ensures.kept c.node.ensures.front (refused_placing r e said.0 said.1 c.in_err-_number.ensures.full c.in_err-_number.ensures.stands);
}

pub returns-in_err-placed : goal.returns-in_err-placed
returns-in_err-placed c = let r = c.from_residual-in_err-placed.result in let e = c.in_err-placed.field-0.0 in let said = c.from_residual-in_err-placed.ensures in record {
  ok = λ a b. no_answer r _ said.0;
  room = let l = led (goal.at.returns-in_err-placed c).Joined-not-is_one in
      let free = node_free c.requires.stands c.in_ok-product.ensures.stands c.in_ok-product.ensures.kept c.in_ok-product.ensures.ok in
      let left = adds_free c.in_ok-product.ensures.stands l.stands l.kept l.adds in
      passed_on r c.in_err-placed.field-0.0 (λ full. free_of c.args.pool.now < term_bytes (length c.args.factors.now)) said.0 said.1
      (omega (arith, free, left, l.most, c.in_err-placed.ensures.room));
  safe = let l = led (goal.at.returns-in_err-placed c).Joined-not-is_one in
      after_placing (kept_after c.in_ok-product.ensures.kept l.kept) (front_after c.node.ensures.front l.front) (passed_placing r e said.0 said.1 c.in_err-placed.ensures.safe);
}
