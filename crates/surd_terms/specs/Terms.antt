-- Terms of the code, as terms of surds.
use Rattle.calc_terms.specs.{Rat.{value_of}, declared.rat.Rat.{Rat}}
use Rattle.calc_algebra.specs.Surds.{Term as SurdTerm, term}
use Rattle.surd_terms.specs.declared.term.Term.{Term}

-- the rational before its root
abbrev pub coefficient_of : Term → Rat
coefficient_of t = t.coefficient

-- the term of a surd that it is
abbrev pub term_of : Term → SurdTerm
term_of t = term (value_of t.coefficient) t.radicand
