use Rattle.polynomials.proofs.Shared.{◌∙◌, sym, ap, one_is, one_times, times, value_of, summand}
use Rattle.polynomials.proofs.term.Term.times.Goals as goal

pub returns-then-is_one-clause-product : goal.returns-then-is_one-clause-product
returns-then-is_one-clause-product c =
    let q = value_of c.args.other.coefficient in
    let one = one_is (value_of c.args.self.coefficient) (sym c.is_one.ensures ∙ c.if-is_one.true) in
    λ i. summand (sym (ap (λ p. times p q) one ∙ one_times q) i) (c.packed_product-monomial.ensures.product i)
