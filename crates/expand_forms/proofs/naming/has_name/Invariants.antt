use Rattle.expand_forms.proofs.Shared.{drop, name_of, HasName}
use Rattle.expansions.specs.Named.{names_of}
use Rattle.expand_forms.proofs.naming.has_name.Given as goal

abbrev pub invariant-loop-other : goal.invariant-loop-other
invariant-loop-other l = HasName (name_of l.name) (names_of l.names) → HasName (name_of l.name) (names_of (drop l.other-index l.names))
