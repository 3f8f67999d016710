use Rattle.std.proofs.Common.{nat_abs, ap, ◌∙◌, arith}
use Rattle.equation_roots.specs.Told.{wholes_of}
use Rattle.equation_roots.proofs.{CommonFactors.{factor_more, factor_positive}, Wide.{told}}
use Rattle.equation_roots.proofs.primitive.common_factor.Goals as goal

pub loop-at-preserved : goal.loop-at-preserved
loop-at-preserved c =
    factor_more c.loop-at.shared c.gcd-shared.result c.unsigned_abs.result c.loop-at.at (wholes_of c.args.wholes.now) c.gcd-shared.ensures
    (c.unsigned_abs.ensures.value ∙ ap nat_abs (told c.get.result c.get.ensures.fits ∙ c.get.ensures.value)) c.loop-at.invariant

pub returns-clause-positive : goal.returns-clause-positive
returns-clause-positive c =
    factor_positive c.loop-at.shared (wholes_of c.args.wholes.now) c.requires (λ k l. c.loop-at.invariant k (omega (arith, l, c.len-at-end.ensures.value, c.loop-at-test.false)))
