use Rattle.number_forms.proofs.{Shared.{drop, surd_times, value, tree_of}, ValueLoops.{AreTermsWith}}
use Rattle.number_forms.specs.Values.{surd_of}
use Rattle.number_forms.proofs.values.multiply_terms.Given as goal

abbrev pub invariant-loop-term : goal.invariant-loop-term
invariant-loop-term l =
    let w = value (tree_of l.a l.pool) in
    AreTermsWith (surd_times (surd_of (drop l.term-index l.terms)) w) (surd_times (surd_of l.terms) w) l.list.items
