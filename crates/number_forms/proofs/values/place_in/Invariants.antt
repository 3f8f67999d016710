use Rattle.number_forms.proofs.Shared.{ℕ, ◌<◌, get_or}
use Rattle.surd_terms.specs.declared.term.Term.{Term}
use Rattle.number_forms.proofs.values.place_in.Given as goal

abbrev pub invariant-loop-at : goal.invariant-loop-at
invariant-loop-at l = (k : ℕ) (d : Term) → k < l.at → (get_or l.terms k d).radicand < l.radicand
