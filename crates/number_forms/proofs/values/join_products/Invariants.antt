use Rattle.number_forms.proofs.{Shared.{◌++◌, map, value, term_of, term_times, tree_of}, ValueLoops.{AreTermsWith}, Worth.{terms_from}}
use Rattle.number_forms.specs.Values.{surd_of}
use Rattle.number_forms.proofs.values.join_products.Given as goal

abbrev pub invariant-loop-at : goal.invariant-loop-at
invariant-loop-at l =
    let v = value (tree_of l.a l.pool) in
    AreTermsWith (map (term_times (term_of l.factor)) (terms_from l.at v)) (surd_of l.fn.list.items ++ map (term_times (term_of l.factor)) v) l.list.items
