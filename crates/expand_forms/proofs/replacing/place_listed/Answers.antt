use Rattle.expand_forms.proofs.Shared.{◌<◌, ◌*◌, length, take, subst, arith, AddsTrees, Monomial, factor_trees, factor_bytes, free_of, passed_on, kept_after, kept_same, forest, front_after}
use Rattle.expand_forms.proofs.{Shared.{front_same, length-take-le, take_all, factors_most}, FactorLists.{read_length}, AddedTrees.{adds_free, adds_none}, PlacedFactors.{placed_more, read_at}}
use Rattle.number_forms.proofs.Safety.{after_placing, no_answer, passed_placing, placed}
use Rattle.expand_forms.proofs.replacing.place_listed.Goals as goal

pub loop-factor-init : goal.loop-factor-init
loop-factor-init c = record { placed = omega arith; adds = λ m h. adds_none (forest c.args.pool.now); front = front_same; kept = kept_same c.args.pool.now; stands = c.requires.stands }

pub place_factor-requires-clause-read : goal.place_factor-requires-clause-read
place_factor-requires-clause-read c = let r = read_at c.args.factors.now c.requires.monomial.1 (omega (arith, c.loop-factor-test.true)) c.factor-item.is in (r.factor, r.read)

pub loop-factor-preserved : goal.loop-factor-preserved
loop-factor-preserved c = record {
  placed = omega (arith, c.loop-factor.invariant.placed);
  adds = λ m h. let r = read_at c.args.factors.now h (omega (arith, c.loop-factor-test.true)) c.factor-item.is in placed_more r (c.loop-factor.invariant.adds m h)
      (c.in_ok-_factor.ensures.ok r.factor r.read);
  front = front_after c.loop-factor.invariant.front c.place_factor.ensures.safe.front;
  kept = kept_after c.loop-factor.invariant.kept c.in_ok-_factor.ensures.safe.kept;
  stands = c.place_factor.ensures.safe.stands;
}

pub returns-clause-ok : goal.returns-clause-ok
returns-clause-ok c = λ m h.
    subst (λ (k : Monomial). AddsTrees (factor_trees k) (forest c.args.pool.now) (forest c.loop-factor.pool))
    (take_all c.loop-factor.factor-index m (omega (arith, read_length c.args.factors.now m h, c.loop-factor-test.false))) (c.loop-factor.invariant.adds m h)

-- ---- few bytes

pub returns-in_err-_factor : goal.returns-in_err-_factor
returns-in_err-_factor c = let r = c.from_residual.result in let e = c.in_err-_factor.field-0.0 in let said = c.from_residual.ensures in record {
  count = no_answer r _ said.0;
  ok = λ a b. no_answer r _ said.0;
  room = let i = c.loop-factor.invariant in
      let (m, h) = c.requires.monomial in
      let n = c.loop-factor.factor-index in
      passed_on r e (λ full. free_of c.args.pool.now < factor_bytes * length c.args.factors.now) said.0 said.1
      (omega (arith, adds_free c.requires.stands i.stands i.kept (i.adds m h), factors_most (take n m), length-take-le n m (omega (arith, read_length c.args.factors.now m h, c.loop-factor-test.true)), c.loop-factor-test.true, c.in_err-_factor.ensures.room));
  safe = let i = c.loop-factor.invariant in after_placing i.kept i.front (passed_placing r e said.0 said.1 c.in_err-_factor.ensures.safe);
}

pub returns-clause-safe : goal.returns-clause-safe
returns-clause-safe c = let i = c.loop-factor.invariant in placed i.front i.kept i.stands
