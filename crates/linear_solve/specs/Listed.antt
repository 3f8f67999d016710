-- Names in a list.
use Rattle.std.specs.Prelude.{ℕ, List, map}
use Rattle.calc_terms.specs.Leaf.{name_of}
use Rattle.linear_solve.specs.declared.side_names.Listed.{Listed}

abbrev pub names_listed : List Listed → List (List ℕ)
names_listed xs = map (λ l. name_of l.name) xs
