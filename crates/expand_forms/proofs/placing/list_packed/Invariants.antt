use Rattle.expansions.specs.Named.{names_of}
use Rattle.expand_forms.proofs.PlacedTerms.{IsListedTo}
use Rattle.expand_forms.proofs.placing.list_packed.Given as goal

abbrev pub invariant-loop-place : goal.invariant-loop-place
invariant-loop-place l = IsListedTo (names_of l.names) l.exponents l.place l.factors.items
