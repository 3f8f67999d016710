use Rattle.expand_forms.proofs.{Shared.{◌∙◌, ap, is_zero_fraction, one_value, one_nonzero}, NodeAnswers.{opposite_value}, NodeParts.{minus_nonzero}}
use Rattle.expand_forms.proofs.parts.sign_at.Goals as goal

pub returns-then-at-eq0 : goal.returns-then-at-eq0
returns-then-at-eq0 c =
    let one = one_value c.whole.result c.whole.ensures in record { first = λ e. one; second = λ n. absurd (n c.if-at-eq0.true); nonzero = ap is_zero_fraction one ∙ one_nonzero }

pub returns-else-at-eq0 : goal.returns-else-at-eq0
returns-else-at-eq0 c =
    let minus = opposite_value c.whole-else-at-eq0.result c.whole-else-at-eq0.ensures in
    record { first = λ e. absurd (c.if-at-eq0.false e); second = λ n. minus; nonzero = ap is_zero_fraction minus ∙ minus_nonzero }
