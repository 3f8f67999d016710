use Rattle.surd_terms.proofs.{Shared.{◌*◌, pos, ap, ◌∙◌, to_z, of_z, nat_abs, w128, times, told}, Rationals.{whole_times, whole_num_of}}
use Rattle.surd_terms.proofs.whole.whole_product.Goals as goal

pub returns-clause-product : goal.returns-clause-product
returns-clause-product c =
    c.unsigned_abs.ensures.value
    ∙ ap nat_abs (
    ap (λ z. to_z w128 (of_z w128 z)) c.num.ensures.value
    ∙ told c.in_ok-product.product.num c.in_ok-product.product.fits
    ∙ whole_num_of c.in_ok-product.product (pos (c.args.m * c.args.n)) (c.in_ok-product.ensures.product ∙ (λ i. times (c.whole.ensures.value i) (c.whole-2.ensures.value i)) ∙ whole_times c.args.m c.args.n)
    )
