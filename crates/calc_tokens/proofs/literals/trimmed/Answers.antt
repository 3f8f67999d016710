use Rattle.calc_tokens.proofs.{Shared.{sym, ◌∙◌}, Digits.{trimmed_at_zero, trimmed_at_other}}
use Rattle.calc_tokens.proofs.literals.trimmed.Goals as goal

pub returns-then-last-ne48 : goal.returns-then-last-ne48
returns-then-last-ne48 c = sym (trimmed_at_other c.loop-last.kept.now c.in-Some.front.now c.in-Some.last.now c.in-Some.ensures.cases.0 c.if-last-ne48.true) ∙ c.loop-last.invariant

pub loop-last-preserved : goal.loop-last-preserved
loop-last-preserved c = sym (trimmed_at_zero c.loop-last.kept.now c.in-Some.front.now c.in-Some.last.now c.in-Some.ensures.cases.0 c.if-last-ne48.false) ∙ c.loop-last.invariant
