-- The values of the code as those of the definitions.
use Rattle.std.specs.Prelude.{ℤ, List, map}
use Rattle.calc_terms.specs.{Rat.{value_of}, declared.rat.Rat.{Rat}}
use Rattle.equation_roots.specs.Coefficients.{Dense}
use Rattle.equation_roots.specs.declared.wholes.Wholes.{Wholes}

-- its coefficients
abbrev pub wholes_of : Wholes → List ℤ
wholes_of w = w.coefficients.items

abbrev pub dense_in : List Rat → Dense
dense_in qs = map value_of qs
