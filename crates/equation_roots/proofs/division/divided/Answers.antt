use Rattle.std.proofs.Common.{neg_ℤ, ap, ◌∙◌, arith}
use Rattle.equation_roots.specs.Told.{wholes_of}
use Rattle.equation_roots.proofs.{Candidates.{backward_result, forward_result, small_fits}, Wide.{handed, told}}
use Rattle.equation_roots.proofs.division.divided.Goals as goal

pub returns-then-unsigned_abs-clause-exact : goal.returns-then-unsigned_abs-clause-exact
returns-then-unsigned_abs-clause-exact c =
    backward_result c.divided_from.result (handed c.opposite.result) (handed c.args.v) c.args.u c.args.v (wholes_of c.args.left.now)
    (told c.opposite.result c.opposite.ensures.fits ∙ c.opposite.ensures.value ∙ ap neg_ℤ (told c.args.u (small_fits _ c.requires.candidate.numerator)))
    (told c.args.v (small_fits _ c.requires.candidate.denominator)) c.requires.candidate (omega (arith, c.requires.some)) c.divided_from.ensures.exact

pub returns-else-unsigned_abs-clause-exact : goal.returns-else-unsigned_abs-clause-exact
returns-else-unsigned_abs-clause-exact c =
    forward_result c.divided_from-else-unsigned_abs.result (handed c.args.v) (handed c.opposite-else-unsigned_abs.result) c.args.u c.args.v (wholes_of c.args.left.now)
    (told c.args.v (small_fits _ c.requires.candidate.denominator))
    (told c.opposite-else-unsigned_abs.result c.opposite-else-unsigned_abs.ensures.fits ∙ c.opposite-else-unsigned_abs.ensures.value ∙ ap neg_ℤ (told c.args.u (small_fits _ c.requires.candidate.numerator)))
    c.requires.candidate (omega (arith, c.requires.some)) c.divided_from-else-unsigned_abs.ensures.exact
