use Rattle.number_forms.proofs.{Shared.{◌+◌, ◌-◌, ◌/◌, ◌<◌, subst, arith, plain, tree_at, forest}, SquareFreeSums.{below_up_to}}
use Rattle.number_forms.proofs.joining.place_of.Goals as goal

pub loop-low-preserved-then-radicand_at-radicand : goal.loop-low-preserved-then-radicand_at-radicand
loop-low-preserved-then-radicand_at-radicand g c =
    let mid = c.loop-low.low + (c.loop-low.high - c.loop-low.low) / 2 in let below = subst (λ (n : _). n < c.args.radicand) c.radicand_at.ensures.value c.if-radicand_at-radicand.true in record {
      order = omega (arith, c.loop-low-test.true);
      within = c.loop-low.invariant.within;
      below = λ k l. below_up_to (plain (tree_at c.args.sum (forest c.args.pool.now))) mid k c.args.radicand c.requires.sum
          (omega (arith, c.loop-low-test.true, c.loop-low.invariant.within)) below (omega (arith, l));
      above = c.loop-low.invariant.above;
    }
