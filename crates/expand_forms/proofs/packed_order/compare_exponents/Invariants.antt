use Rattle.expand_forms.proofs.Shared.{◌≡◌, drop, exponents_cmp}
use Rattle.expand_forms.proofs.packed_order.compare_exponents.Given as goal

abbrev pub invariant-loop-at : goal.invariant-loop-at
invariant-loop-at l = exponents_cmp l.left l.right ≡ exponents_cmp (drop l.at l.left) (drop l.at l.right)
