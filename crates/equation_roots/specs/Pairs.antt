-- Pairs of irrational roots m - s√t and m + s√t, as the code has them.
use Rattle.std.specs.Prelude.{ℕ}
use Rattle.calc_terms.specs.{Fractions.{Fraction}, Rat.{value_of}}
use Rattle.equation_roots.specs.declared.rest.RootPair.{RootPair}

-- m
abbrev pub middle_of : RootPair → Fraction
middle_of p = value_of p.middle

-- s
abbrev pub beside_of : RootPair → Fraction
beside_of p = value_of p.beside

-- t
abbrev pub radicand_of : RootPair → ℕ
radicand_of p = p.radicand
