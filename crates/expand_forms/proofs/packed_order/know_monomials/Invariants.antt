use Rattle.expand_forms.proofs.Shared.{ℕ, ◌<◌, ◌^◌, get_or, Term}
use Rattle.expand_forms.proofs.packed_order.know_monomials.Given as goal

abbrev pub invariant-loop-term : goal.invariant-loop-term
invariant-loop-term l = (k : ℕ) (d : Term) → k < l.term-index → (get_or l.terms k d).monomial < 2 ^ 64
