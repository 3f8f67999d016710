use Rattle.surd_terms.proofs.Shared.{◌≡◌, ◌<◌, ◌/◌, ◌^◌, sym, ap, ◌∙◌, subst, arith, to_z, of_z, nat_abs, w128, mul-div_cancel', den_pos, value_of, positive_factor, ratio_parts, same_parts, told}
use Rattle.surd_terms.proofs.{WholeFactors.{multiple_parts, multiple_coprime, part_le}, cancelling.multiple.Goals.{After-num}}
use Rattle.surd_terms.proofs.cancelling.multiple.Goals as goal

num_is : (c : After-num) → to_z w128 (of_z w128 c.num.result) ≡ (value_of c.args.c).num
num_is c = ap (λ z. to_z w128 (of_z w128 z)) c.num.ensures.value ∙ told c.args.c.num c.args.c.fits ∙ sym (ratio_parts c.args.c).num

pub rational-requires-clause-in_lowest_terms : goal.rational-requires-clause-in_lowest_terms
rational-requires-clause-in_lowest_terms c =
    rw (num_is (goal.at.rational-requires-clause-in_lowest_terms c).After-num, c.denominator.ensures.value) (multiple_coprime (value_of c.args.c) c.args.n c.requires.divides)

pub rational-requires-clause-num_fits : goal.rational-requires-clause-num_fits
rational-requires-clause-num_fits c =
    subst (λ z. nat_abs z < 2 ^ 127) (sym (ap (λ z. to_z w128 (of_z w128 z)) c.num.ensures.value ∙ told c.args.c.num c.args.c.fits)) c.args.c.fits

pub rational-requires-clause-positive : goal.rational-requires-clause-positive
rational-requires-clause-positive c =
    rw c.denominator.ensures.value (positive_factor c.args.n ((value_of c.args.c).den / c.args.n) (value_of c.args.c).den (mul-div_cancel' c.args.n c.requires.divides) (den_pos (value_of c.args.c)))

pub rational-requires-clause-den_fits : goal.rational-requires-clause-den_fits
rational-requires-clause-den_fits c = omega (arith, c.denominator.ensures.fits, part_le c.denominator.result c.args.n)

pub returns : goal.returns
returns c =
    same_parts _ _ (value_of c.args.c).num ((value_of c.args.c).den / c.args.n)
    (record { num = c.rational.ensures.num ∙ num_is (goal.at.returns c).After-num; den = c.rational.ensures.den ∙ ap (λ m. m / c.args.n) c.denominator.ensures.value })
    (multiple_parts (value_of c.args.c) c.args.n c.requires.positive c.requires.divides)
