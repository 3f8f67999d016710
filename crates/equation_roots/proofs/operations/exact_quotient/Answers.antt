use Rattle.std.proofs.Common.{nat_abs, ap, ◌∙◌}
use Rattle.equation_roots.proofs.Wide.{remainder_left, told}
use Rattle.equation_roots.proofs.operations.exact_quotient.Goals as goal

pub returns-then-unsigned_abs-divisor-ne0-clause-exact : goal.returns-then-unsigned_abs-divisor-ne0-clause-exact
returns-then-unsigned_abs-divisor-ne0-clause-exact c = λ x.
    remainder_left c.unsigned_abs.result c.unsigned_abs-divisor.result c.args.n c.args.b x (c.unsigned_abs.ensures.value ∙ ap nat_abs (told c.args.n c.requires.first))
    (c.unsigned_abs-divisor.ensures.value ∙ ap nat_abs (told c.args.b c.requires.second)) c.if-unsigned_abs-divisor-ne0.true
