use Rattle.deep_reduce.proofs.{Shared.{◌≡◌, false, sym, ◌∙◌, mul_op, is_zero_fraction, value_of, rational_fits}, Folded.{calculated_is, quotient_answered, some_told}}
use Rattle.deep_reduce.proofs.folding.quotient.Goals as goal

pub returns : goal.returns
returns c =
    let p = value_of c.args.dividend in
    let z : is_zero_fraction (value_of c.args.divisor) ≡ false = sym c.is_zero.ensures ∙ c.if-is_zero.false in
    some_told c.ok.result (calculated_is mul_op p (value_of c.invert-inverse.result) c.mul.result c.ok.result c.ok.ensures.value c.mul.ensures.product c.mul.ensures.refused)
    (λ x h. quotient_answered (value_of c.args.divisor) (value_of c.invert-inverse.result) z (rational_fits c.args.divisor) c.invert-inverse.ensures.inverse p (value_of x) h.0 h.1)
