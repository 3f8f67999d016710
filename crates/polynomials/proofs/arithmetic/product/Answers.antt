use Rattle.polynomials.proofs.{Shared.{ℕ, ◌+◌, ◌*◌, ◌<◌, ◌≤◌, length, ap, arith, mul-le-mul_right, vec_capacity, passed_on}, Causes.{caused_more}, MergeLoops.{have_at}}
use Rattle.polynomials.proofs.Products.{product_more, product_none}
use Rattle.polynomials.proofs.arithmetic.product.Goals as goal

pub loop-term-init : goal.loop-term-init
loop-term-init c = record {
  products = product_none c.args.a.now c.args.b.now c.clear.new.self.items c.clear.ensures.items;
  few = omega (arith, ap length c.clear.ensures.items);
  room-kept = omega arith;
}

pub add_multiple-requires-clause-sum : goal.add_multiple-requires-clause-sum
add_multiple-requires-clause-sum c = rw c.deref.ensures.value (c.loop-term.invariant.products.terms-are.normal)

pub add_multiple-requires-clause-exponents : goal.add_multiple-requires-clause-exponents
add_multiple-requires-clause-exponents c =
    let x = c.requires.exponents in
    (x.0, x.1, x.2, have_at (x.0) c.args.a.now c.loop-term.term-index c.term-item.result c.loop-term-test.true c.term-item.is (x.3), x.4)

pub loop-term-preserved : goal.loop-term-preserved
loop-term-preserved c = record {
  products = rw c.swap.ensures.x_after (product_more c.args.a.now c.args.b.now c.loop-term.term-index c.deref.result.now c.add_multiple.new.list.items c.term-item.result
      c.loop-term-test.true c.term-item.is (rw c.deref.ensures.value c.loop-term.invariant.products) c.in_ok-add_multiple.ensures.terms c.in_ok-add_multiple.ensures.exponents);
  few = rw c.swap.ensures.x_after (omega (arith, ap length c.deref.ensures.value, c.in_ok-add_multiple.ensures.few));
  room-kept = omega (arith, ap vec_capacity c.swap.ensures.x_after, ap vec_capacity c.swap.ensures.y_after);
}

pub returns-in_err-add_multiple-clause-unfit : goal.returns-in_err-add_multiple-clause-unfit
returns-in_err-add_multiple-clause-unfit c =
    let e = c.in_err-add_multiple.field-0.0 in
    let b : ℕ = length c.args.b.now in
    let i : ℕ = c.loop-term.term-index in
    let more : (i + 1) * b ≤ length c.args.a.now * b = mul-le-mul_right b (let n : i + 1 ≤ length c.args.a.now = omega arith in n) in
    passed_on c.from_residual.result e _ c.from_residual.ensures.0 c.from_residual.ensures.1
    (caused_more e (λ (h : vec_capacity c.loop-term.spare < length c.deref.result.now + length c.args.b.now). omega (arith, h, more, ap length c.deref.ensures.value)) c.in_err-add_multiple.ensures.unfit)
