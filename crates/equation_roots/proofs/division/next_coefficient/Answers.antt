use Rattle.std.proofs.Common.{◌*ℤ◌, ◌+ℤ◌, neg_ℤ, ap, ◌∙◌}
use Rattle.equation_roots.proofs.Wide.{next_exact, told}
use Rattle.equation_roots.proofs.division.next_coefficient.Goals as goal

pub returns-clause-exact : goal.returns-clause-exact
returns-clause-exact c =
    next_exact c.exact_quotient.result c.args.entry c.args.a c.args.last c.args.b c.in_ok-carried.carried c.in_ok-rest.rest
    (c.in_ok-carried.ensures.value ∙ (λ i. told c.args.a c.requires.first i *ℤ told c.args.last c.requires.last i))
    (c.in_ok-rest.ensures.value ∙ (λ i. told c.args.entry c.requires.entry i +ℤ told c.opposite.result c.opposite.ensures.fits i)
    ∙ ap (λ z. c.args.entry +ℤ z) (c.opposite.ensures.value ∙ ap neg_ℤ (told c.in_ok-carried.carried c.in_ok-carried.ensures.fits)))
    (rw (told c.args.b c.requires.second, told c.in_ok-rest.rest c.in_ok-rest.ensures.fits) at c.exact_quotient.ensures.exact)
