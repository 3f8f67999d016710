use Rattle.number_forms.proofs.{Shared.{◌++◌, value, tree_of}, ValueLoops.{AreTermsWith}, Worth.{terms_from}}
use Rattle.number_forms.specs.Values.{surd_of}
use Rattle.number_forms.proofs.values.join_terms.Given as goal

abbrev pub invariant-loop-at : goal.invariant-loop-at
invariant-loop-at l = let v = value (tree_of l.a l.pool) in AreTermsWith (terms_from l.at v) (surd_of l.fn.list.items ++ v) l.list.items
