use Rattle.expand_forms.proofs.{Shared.{HasMonomial, IsNamed, Monomial, forest, plain, tree_at}, PackedTerms.{IsPackedTo}}
use Rattle.expansions.specs.Named.{names_of}
use Rattle.expand_forms.proofs.packing.packed_monomial.Given as goal

abbrev pub invariant-loop-name : goal.invariant-loop-name
invariant-loop-name l =
    (m : Monomial) → HasMonomial m (plain (tree_at l.fn.term (forest l.pool))) → IsNamed (names_of l.names) m → IsPackedTo (names_of l.names) m l.name-index l.packed l.next l.nodes (forest l.pool)
