use Rattle.std.proofs.Common.{ℕ, get_or, ap, sym, subst, ◌∙◌, arith, below_more, refl}
use Rattle.std.specs.Int.{◌∣◌}
use Rattle.std.proofs.lemmas.Nat.Gcd.{dvd_trans}
use Rattle.calc_terms.specs.{Fractions.{Fraction, zero_fraction}, Rat.{value_of}}
use Rattle.equation_roots.specs.Told.{dense_in}
use Rattle.equation_roots.proofs.{CommonFactors.{item_value}, Sizes.{one_divides}}
use Rattle.equation_roots.proofs.primitive.common_denominator.Goals as goal

pub loop-q-init : goal.loop-q-init
loop-q-init c = record {
  common = λ k l. absurd (omega (arith, l));
  least = λ n h. one_divides n;
  positive = omega arith;
  fits = omega arith;
}

pub loop-q-preserved : goal.loop-q-preserved
loop-q-preserved c =
    let i = item_value value_of c.args.coefficients.now c.loop-q.q-index c.q-item.result zero_fraction c.loop-q-test.true c.q-item.is in
    record {
      common = below_more (λ (k : ℕ). (get_or (dense_in c.args.coefficients.now) k zero_fraction).den ∣ c.in_ok-common.common) c.loop-q.q-index
          (λ k l. dvd_trans (get_or (dense_in c.args.coefficients.now) k zero_fraction).den (c.loop-q.invariant.common k l) c.in_ok-common.ensures.of_first)
          (subst (λ (n : ℕ). n ∣ c.in_ok-common.common) (c.parts-den.ensures.den ∙ ap (λ (f : Fraction). f.den) i) c.in_ok-common.ensures.of_second);
      least = λ n h.
          c.in_ok-common.ensures.least n (c.loop-q.invariant.least n (λ k l. h k (omega (arith, l))))
          (subst (λ (d : ℕ). d ∣ n) (sym (c.parts-den.ensures.den ∙ ap (λ (f : Fraction). f.den) i)) (h c.loop-q.q-index (omega arith)));
      positive = c.in_ok-common.ensures.positive;
      fits = c.in_ok-common.ensures.fits;
    }

pub returns-clause-least : goal.returns-clause-least
returns-clause-least c = λ n h. c.loop-q.invariant.least n (λ k l. h k (omega (arith, l, c.loop-q.auto.q-index-end)))

pub returns-in_err-common-clause-beyond : goal.returns-in_err-common-clause-beyond
returns-in_err-common-clause-beyond c = λ e n p h.
    let i = item_value value_of c.args.coefficients.now c.loop-q.q-index c.q-item.result zero_fraction c.loop-q-test.true c.q-item.is in
    c.in_err-common.ensures.beyond refl n p (c.loop-q.invariant.least n (λ k l. h k (omega (arith, l, c.loop-q-test.true))))
    (subst (λ (d : ℕ). d ∣ n) (sym (c.parts-den.ensures.den ∙ ap (λ (f : Fraction). f.den) i)) (h c.loop-q.q-index c.loop-q-test.true))
