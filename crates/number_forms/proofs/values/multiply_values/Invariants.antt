use Rattle.number_forms.proofs.{Shared.{surd_times, value, tree_of}, ValueLoops.{AreTermsWith}, Worth.{terms_from}}
use Rattle.number_forms.proofs.values.multiply_values.Given as goal

abbrev pub invariant-loop-at : goal.invariant-loop-at
invariant-loop-at l =
    let v = value (tree_of l.a l.pool) in
    let w = value (tree_of l.b l.pool) in
    AreTermsWith (surd_times (terms_from l.at v) w) (surd_times v w) l.list.items
