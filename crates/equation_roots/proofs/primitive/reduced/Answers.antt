use Rattle.std.proofs.Common.{ℤ, nat_abs, sym, subst, ◌∙◌, arith}
use Rattle.std.specs.Int.{◌∣◌}
use Rattle.equation_roots.proofs.Wide.{told}
use Rattle.equation_roots.proofs.primitive.reduced.Goals as goal

pub signed_quotient-requires-clause-divides : goal.signed_quotient-requires-clause-divides
signed_quotient-requires-clause-divides c =
    subst (λ (z : ℤ). c.args.shared ∣ nat_abs z) (sym (told c.get.result c.get.ensures.fits ∙ c.get.ensures.value)) (c.requires.common c.loop-at.at (omega (arith, c.len-at-end.ensures.value, c.loop-at-test.true)))
