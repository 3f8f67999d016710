use Rattle.polynomials.proofs.{Shared.{◌≤◌, List, length, length-append, ap, sym, subst, arith, on_ok_weaker, vec_capacity, Term, HaveExponents, polynomial_of, passed_on, IfErr-weaker, IsNormal}, Causes.{caused_more, merged_full, not_done}}
use Rattle.polynomials.proofs.MergeLoops.{done_below, have_at, merged_all, merged_more}
use Rattle.polynomials.proofs.merging.add_multiple.Goals as goal

pub times-requires : goal.times-requires
times-requires c =
    let x = c.requires.exponents in
    record { exponents = (x.0, x.1, x.2, x.3, have_at (x.1) c.args.terms.now c.loop-term.term-index c.term-item.result c.loop-term-test.true c.term-item.is (x.4)) }

pub loop-term-preserved : goal.loop-term-preserved
loop-term-preserved c = record {
  merged = merged_more c.args.sum.now c.args.terms.now c.args.factor c.loop-term.term-index c.loop-term.list.items c.loop-term.rest.now c.loop-term.invariant.merged c.requires.terms
      c.term-item.result c.in_ok-product.product c.loop-term-test.true c.term-item.is c.in_ok-product.ensures.product c.in_ok-product.ensures.packed
      c.copy_below.new.list.items c.in_ok-rest.rest.now c.put.new.list.items c.in_ok-rest-2.rest.now
      c.in_ok-rest.ensures.copied c.in_ok-rest-2.ensures.terms c.in_ok-rest-2.ensures.exponents c.in_ok-rest-2.ensures.below;
  few = omega (
    arith,
    length-append c.copy_below.new.list.items c.in_ok-rest.rest.now,
    length-append c.loop-term.list.items c.loop-term.rest.now,
    ap length c.in_ok-rest.ensures.copied,
    c.in_ok-rest-2.ensures.few,
  );
  room-kept = omega arith;
}

pub returns-clause-exponents : goal.returns-clause-exponents
returns-clause-exponents c = λ d h k.
    on_ok_weaker c.extend.result (λ e. subst (λ (l : List Term). HaveExponents d (polynomial_of l)) (sym e) (c.loop-term.invariant.merged.exponents d h k)) c.extend.ensures.ok

pub copy_below-requires : goal.copy_below-requires
copy_below-requires c = record {
  below = done_below c.args.sum.now c.args.terms.now c.args.factor c.loop-term.term-index c.loop-term.list.items c.loop-term.rest.now c.loop-term.invariant.merged c.requires.terms
      c.term-item.result c.in_ok-product.product c.loop-term-test.true c.term-item.is c.in_ok-product.ensures.product c.in_ok-product.ensures.packed;
}

pub put-requires : goal.put-requires
put-requires c = record { normal = subst IsNormal (sym c.in_ok-rest.ensures.copied) c.loop-term.invariant.merged.terms-are.normal; below = c.in_ok-rest.ensures.below; from = c.in_ok-rest.ensures.from }

-- ---- refusals

pub returns-in_err-product : goal.returns-in_err-product
returns-in_err-product c =
    let r = c.from_residual in
    record {
      terms = not_done r.result _ r.ensures.0;
      exponents = λ d h k. not_done r.result _ r.ensures.0;
      few = not_done r.result _ r.ensures.0;
      unfit = passed_on r.result c.in_err-product.field-0.0 _ r.ensures.0 r.ensures.1 (caused_more c.in_err-product.field-0.0 (λ h. absurd h) c.in_err-product.ensures.unfit);
      room = c.loop-term.invariant.room-kept;
    }

pub returns-in_err-rest : goal.returns-in_err-rest
returns-in_err-rest c =
    let r = c.from_residual-in_err-rest in
    record {
      terms = not_done r.result _ r.ensures.0;
      exponents = λ d h k. not_done r.result _ r.ensures.0;
      few = not_done r.result _ r.ensures.0;
      unfit = passed_on r.result c.in_err-rest.field-0.0 _ r.ensures.0 r.ensures.1 (caused_more c.in_err-rest.field-0.0 (merged_full c.loop-term.invariant c.loop-term-test.true) c.in_err-rest.ensures.unfit);
      room = omega (arith, c.loop-term.invariant.room-kept, c.copy_below.ensures.room);
    }

pub returns-in_err-rest-2 : goal.returns-in_err-rest-2
returns-in_err-rest-2 c =
    let r = c.from_residual-in_err-rest-2 in
    let list = c.copy_below.new.list in
    let rest = c.in_ok-rest.rest.now in
    record {
      terms = not_done r.result _ r.ensures.0;
      exponents = λ d h k. not_done r.result _ r.ensures.0;
      few = not_done r.result _ r.ensures.0;
      unfit = passed_on r.result c.in_err-rest-2.field-0.0 _ r.ensures.0 r.ensures.1
          (caused_more c.in_err-rest-2.field-0.0 (λ (h : vec_capacity list ≤ length list.items).
          omega (arith, h, length-append list.items rest, length-append c.loop-term.list.items c.loop-term.rest.now, ap length c.in_ok-rest.ensures.copied)) c.in_err-rest-2.ensures.unfit);
      room = omega (arith, c.loop-term.invariant.room-kept, c.copy_below.ensures.room, c.put.ensures.room);
    }

-- ---- the answer

pub returns-clause-terms : goal.returns-clause-terms
returns-clause-terms c =
    on_ok_weaker c.extend.result (merged_all c.args.sum.now c.args.terms.now c.args.factor c.loop-term.term-index c.loop-term.list.items c.loop-term.rest.now c.extend.new.list.items c.loop-term.invariant.merged c.loop-term-test.false) c.extend.ensures.ok

pub returns-clause-few : goal.returns-clause-few
returns-clause-few c = on_ok_weaker c.extend.result (λ e. omega (arith, ap length e, length-append c.loop-term.list.items c.loop-term.rest.now, c.loop-term.invariant.few)) c.extend.ensures.ok

pub returns-clause-unfit : goal.returns-clause-unfit
returns-clause-unfit c = IfErr-weaker c.extend.result _ _ (λ u. caused_more u (λ h. omega (arith, h, c.loop-term.invariant.few, c.loop-term.invariant.room-kept))) c.extend.ensures.unfit
