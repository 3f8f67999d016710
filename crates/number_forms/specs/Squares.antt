-- The square of a sum of terms, in which each mixed product stands once.
use Rattle.calc_terms.specs.Fractions.{plus}
use Rattle.calc_algebra.specs.Surds.{Term, Surd, term, term_times}
use Rattle.std.specs.Prelude.{[], ◌∷◌, ◌++◌, map}

-- the term added to itself
abbrev pub twice : Term → Term
twice t = term (plus t.coefficient t.coefficient) t.radicand

-- the square of a term, and twice its product with each of others
abbrev pub square_row : Term → Surd → Surd
square_row x w = term_times x x ∷ map (term_times (twice x)) w

-- the square of each term, and twice its product with each later one
abbrev pub square_terms : Surd → Surd
square_terms [] = []
square_terms (x ∷ w) = square_row x w ++ square_terms w
