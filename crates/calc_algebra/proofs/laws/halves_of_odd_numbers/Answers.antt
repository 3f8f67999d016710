use Rattle.calc_algebra.proofs.{Shared.{sym, ap, Fraction}, HalfLaws.{half_of_is}}
use Rattle.calc_algebra.proofs.laws.halves_of_odd_numbers.Goals as goal

pub returns-clause-each : goal.returns-clause-each
returns-clause-each c = λ n o. (ap (λ (q : Fraction). q.num) (sym (half_of_is n o)), ap (λ (q : Fraction). q.den) (sym (half_of_is n o)))
