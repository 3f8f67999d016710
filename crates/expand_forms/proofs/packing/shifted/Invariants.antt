use Rattle.expand_forms.proofs.PackedTerms.{IsShifted}
use Rattle.expand_forms.proofs.packing.shifted.Given as goal

abbrev pub invariant-loop-place : goal.invariant-loop-place
invariant-loop-place l = IsShifted l.fn.packed l.fn.names l.shifted l.place
