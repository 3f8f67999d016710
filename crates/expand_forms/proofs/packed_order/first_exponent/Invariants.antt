use Rattle.expand_forms.proofs.Shared.{◌≡◌, drop, first_exponent}
use Rattle.expand_forms.proofs.packed_order.first_exponent.Given as goal

abbrev pub invariant-loop-exponent : goal.invariant-loop-exponent
invariant-loop-exponent l = first_exponent l.exponents ≡ first_exponent (drop l.exponent-index l.exponents)
