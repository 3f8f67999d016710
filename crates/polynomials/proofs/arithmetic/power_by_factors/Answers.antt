use Rattle.polynomials.proofs.Shared.{◌≡◌, ℕ, List, [], ◌∷◌, ◌++◌, ◌*◌, ◌^◌, ◌<◌, ◌≤◌, min, ap, ◌∙◌, subst, arith, length, vec_capacity, Term, HaveExponents, raised, AreTermsOf, polynomial_of}
use Rattle.polynomials.proofs.{Shared.{passed_on}, Causes.{caused_more, one_few, power_bound, power_few}, Products.{power_more, power_none, within}}
use Rattle.polynomials.proofs.arithmetic.power_by_factors.Goals as goal

pub loop-turn-init : goal.loop-turn-init
loop-turn-init c =
    let one : c.push.new.list.items ≡ c.constant.result ∷ [] = c.in_ok-push.ensures.ok ∙ ap (λ (l : List Term). l ++ c.constant.result ∷ []) c.clear.ensures.items in
    record {
      powers = power_none c.args.base.now c.push.new.list.items c.constant.result c.whole.result one c.whole.ensures c.constant.ensures;
      few = one_few (length c.args.base.now) (length c.push.new.list.items) (ap length one);
      room-kept = omega arith;
    }

pub product-requires-clause-second : goal.product-requires-clause-second
product-requires-clause-second c = rw c.deref.ensures.value (c.loop-turn.invariant.powers.terms-are.normal)

pub product-requires-clause-exponents : goal.product-requires-clause-exponents
product-requires-clause-exponents c =
    let x = c.requires.exponents in
    (x.0, c.loop-turn.turn * x.0, within (x.0) c.loop-turn.turn c.args.exponent c.loop-turn-test.true (x.1), x.2, rw c.deref.ensures.value (c.loop-turn.invariant.powers.exponents (x.0) (x.2)))

pub loop-turn-preserved : goal.loop-turn-preserved
loop-turn-preserved c = record {
  powers = rw c.swap.ensures.x_after (power_more c.args.base.now c.loop-turn.turn c.deref.result.now c.product.new.list.items (rw c.deref.ensures.value c.loop-turn.invariant.powers)
      c.in_ok-product.ensures.terms c.in_ok-product.ensures.exponents);
  few = rw c.swap.ensures.x_after (power_few (length c.args.base.now) (length c.deref.result.now) c.loop-turn.turn (length c.product.new.list.items) c.in_ok-product.ensures.few
      (rw c.deref.ensures.value c.loop-turn.invariant.few));
  room-kept = omega (arith, ap vec_capacity c.swap.ensures.x_after, ap vec_capacity c.swap.ensures.y_after);
}

pub returns-clause-terms : goal.returns-clause-terms
returns-clause-terms c =
    let e : c.loop-turn.turn ≡ c.args.exponent = omega arith in
    subst (λ (n : ℕ). AreTermsOf (raised (polynomial_of c.args.base.now) n) c.loop-turn.list.items) e c.loop-turn.invariant.powers.terms-are

pub returns-clause-exponents : goal.returns-clause-exponents
returns-clause-exponents c = λ d h.
    let e : c.loop-turn.turn ≡ c.args.exponent = omega arith in
    subst (λ (n : ℕ). HaveExponents (n * d) (polynomial_of c.loop-turn.list.items)) e (c.loop-turn.invariant.powers.exponents d h)

pub returns-clause-few : goal.returns-clause-few
returns-clause-few c =
    let e : c.loop-turn.turn ≡ c.args.exponent = omega arith in
    subst (λ (n : ℕ). length c.loop-turn.list.items ≤ length c.args.base.now ^ n) e c.loop-turn.invariant.few

pub returns-in_err-product-clause-unfit : goal.returns-in_err-product-clause-unfit
returns-in_err-product-clause-unfit c =
    let e = c.in_err-product.field-0.0 in
    let n : ℕ = length c.deref.result.now in
    let few : n ≤ length c.args.base.now ^ c.loop-turn.turn = rw c.deref.ensures.value c.loop-turn.invariant.few in
    let r = c.from_residual-in_err-product in
    passed_on r.result e _ r.ensures.0 r.ensures.1
    (caused_more e (λ (h : min (vec_capacity c.loop-turn.other) (vec_capacity c.loop-turn.spare) < length c.args.base.now * n).
    omega (arith, h, power_bound (length c.args.base.now) n c.loop-turn.turn c.args.exponent c.loop-turn-test.true few)) c.in_err-product.ensures.unfit)
