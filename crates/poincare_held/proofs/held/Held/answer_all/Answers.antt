use Rattle.poincare_held.proofs.{Shared.{arith, rules, common_steps}, AnsweringLemmas.{begins, ends_by_line, ends_here, goes_on}}
use Rattle.poincare_held.proofs.held.Held.answer_all.Goals as goal

pub loop-line-init : goal.loop-line-init
loop-line-init c = begins _ _ _

pub loop-line-preserved : goal.loop-line-preserved
loop-line-preserved c = let f = c.in-Some.ensures in goes_on _ _ _ _ _ _ _ _ c.loop-line.invariant _ _ f.1 f.0 c.answer_line.ensures

pub returns-then-not-is_empty : goal.returns-then-not-is_empty
returns-then-not-is_empty c = ends_by_line _ _ _ _ _ _ _ _ c.loop-line.invariant c.in_default.ensures (first_of (omega arith, search rules, grind (arith, common_steps))) c.answer_line-then-not-is_empty.ensures

pub returns-else-not-is_empty : goal.returns-else-not-is_empty
returns-else-not-is_empty c = ends_here _ _ _ _ _ _ c.loop-line.invariant (first_of (omega arith, search rules, grind (arith, common_steps)))
