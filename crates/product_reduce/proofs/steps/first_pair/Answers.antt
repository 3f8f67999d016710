use Rattle.product_reduce.proofs.{Shared.{arith, forest, factors_in}, Pairs.{no_pair_more, no_partners}}
use Rattle.product_reduce.proofs.steps.first_pair.Goals as goal

pub loop-first-preserved : goal.loop-first-preserved
loop-first-preserved c = no_pair_more c.loop-first.first (factors_in c.args.product.now (forest c.args.pool.now)) c.loop-first.invariant c.in_default.ensures

pub returns : goal.returns
returns c = no_partners (factors_in c.args.product.now (forest c.args.pool.now)) (λ k l. c.loop-first.invariant k (omega (arith, c.loop-first-test.false, c.factor_count-first-end.ensures)))
