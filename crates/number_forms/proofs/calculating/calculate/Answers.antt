use Rattle.number_forms.proofs.{Shared.{◌&&◌, ap, sym, ◌∙◌, is_num}, Kept.{no_neutral}}
use Rattle.number_forms.proofs.calculating.calculate.Goals.{else-is_rational-via-then-is_rational+else-is_rational-2, else-is_rational-via-else-is_rational}
use Rattle.std.proofs.lemmas.Bool.{false≢true}
use Rattle.number_forms.proofs.calculating.calculate.Goals as goal

pub returns-else-is_rational-clause-rationals : goal.returns-else-is_rational-clause-rationals
returns-else-is_rational-clause-rationals c = λ p q k l.
    absurd (elim c.else-is_rational.branch [
      | else-is_rational-via-then-is_rational+else-is_rational-2 w ↦
          false≢true (sym w.if-is_rational-2.false ∙ w.is_rational-then-is_rational.ensures ∙ ap is_num l)
      | else-is_rational-via-else-is_rational w ↦
          false≢true (sym w.if-is_rational.false ∙ c.is_rational.ensures ∙ ap is_num k)
    ])

pub returns-else-is_rational-clause-first_neutral : goal.returns-else-is_rational-clause-first_neutral
returns-else-is_rational-clause-first_neutral c = λ h k. c.calculate_terms.ensures.first_neutral h

pub returns-else-is_rational-clause-second_neutral : goal.returns-else-is_rational-clause-second_neutral
returns-else-is_rational-clause-second_neutral c = λ h k. c.calculate_terms.ensures.second_neutral (no_neutral c.args.joint _ k) h

pub returns-else-is_rational-clause-overflow : goal.returns-else-is_rational-clause-overflow
returns-else-is_rational-clause-overflow c = λ h. c.calculate_terms.ensures.overflow

pub returns-then-is_rational-2-clause-first_neutral : goal.returns-then-is_rational-2-clause-first_neutral
returns-then-is_rational-2-clause-first_neutral c = λ h k. absurd (false≢true (sym k ∙ sym c.is_rational-then-is_rational.ensures ∙ c.if-is_rational-2.true))

pub returns-then-is_rational-2-clause-second_neutral : goal.returns-then-is_rational-2-clause-second_neutral
returns-then-is_rational-2-clause-second_neutral c = λ h k. absurd (false≢true (sym k ∙ sym c.is_rational.ensures ∙ c.if-is_rational.true))

pub returns-then-is_rational-2-clause-overflow : goal.returns-then-is_rational-2-clause-overflow
returns-then-is_rational-2-clause-overflow c = λ h. absurd (false≢true (sym h ∙ (λ i. (sym c.is_rational.ensures ∙ c.if-is_rational.true) i && (sym c.is_rational-then-is_rational.ensures ∙ c.if-is_rational-2.true) i)))
