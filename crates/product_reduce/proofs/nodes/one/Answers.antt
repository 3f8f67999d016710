use Rattle.product_reduce.proofs.Shared.{◌∙◌, ap, refl, lowest, one_fraction, Ratio, num, gives_as}
use Rattle.product_reduce.proofs.nodes.one.Goals as goal

pub returns-clause-ok : goal.returns-clause-ok
unfolding one_fraction
returns-clause-ok c = gives_as c.in_ok-one.ensures.given refl (λ u e. e ∙ ap (λ (x : Ratio). num (lowest x.num x.den)) c.whole.ensures)
