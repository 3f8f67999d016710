use Rattle.polynomials.proofs.GreatestExponents.{have_one_more}
use Rattle.polynomials.proofs.degrees.degree.Goals as goal

pub loop-term-preserved : goal.loop-term-preserved
loop-term-preserved c =
    have_one_more c.args.terms.now c.loop-term.term-index c.loop-term.degree c.greatest_exponent.result c.max-degree.result c.term-item.result
    c.loop-term-test.true c.term-item.is c.loop-term.invariant c.greatest_exponent.ensures c.max-degree.ensures
