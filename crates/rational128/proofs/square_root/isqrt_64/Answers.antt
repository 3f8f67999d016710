use Rattle.rational128.proofs.{Shared.{refl, arith}, Newton.{starts, steps, quotient_bound}}
use Rattle.rational128.proofs.square_root.isqrt_64.Goals as goal

pub loop-root-init : goal.loop-root-init
loop-root-init c = starts 64 32 c.args.n refl (omega arith) (omega arith)

pub overflow_add-next : goal.overflow_add-next
overflow_add-next c = omega (arith, quotient_bound c.args.n c.loop-root.root c.loop-root.invariant.positive c.loop-root.invariant.above)

pub loop-root-preserved : goal.loop-root-preserved
loop-root-preserved c = steps _ _ _ (omega arith) c.loop-root.invariant c.if-root-next.false
