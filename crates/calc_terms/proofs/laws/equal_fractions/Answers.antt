use Rattle.calc_terms.proofs.{Shared.{same_lowest}, FractionFacts.{cross_products}}
use Rattle.calc_terms.proofs.laws.equal_fractions.Goals as goal

pub returns-clause-equal : goal.returns-clause-equal
returns-clause-equal c = same_lowest

pub returns-clause-only_then : goal.returns-clause-only_then
returns-clause-only_then c = cross_products
