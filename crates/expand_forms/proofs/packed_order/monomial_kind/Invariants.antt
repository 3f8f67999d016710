use Rattle.expand_forms.proofs.Shared.{◌≡◌, drop, kind_with}
use Rattle.expand_forms.proofs.packed_order.monomial_kind.Given as goal

abbrev pub invariant-loop-exponent : goal.invariant-loop-exponent
invariant-loop-exponent l = kind_with 0 l.exponents ≡ kind_with l.only (drop l.exponent-index l.exponents)
