use Rattle.expand_forms.proofs.Shared.{take, name_of, AreNamesBelow}
use Rattle.expansions.specs.Named.{names_of}
use Rattle.expand_forms.proofs.naming.place_of_name.Given as goal

abbrev pub invariant-loop-at : goal.invariant-loop-at
invariant-loop-at l = AreNamesBelow (name_of l.name) (names_of (take l.at l.names))
