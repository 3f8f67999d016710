-- Rows of fractions: what is done to them entry by entry, and what they are worth.
use Rattle.std.specs.Prelude.{ℕ, List, [], ◌∷◌, map, zip, slice_index_or, Result}
use Rattle.calc_terms.specs.Fractions.{Fraction, plus, times, negative, zero_fraction}
use Rattle.linear_solve.specs.Fitting.{Misfit, and_then, each, sum_of, product_of}

abbrev pub Row : Type 0
Row = List Fraction

-- the entry at a place, 0 past the end
abbrev pub entry : ℕ → Row → Fraction
entry at r = slice_index_or r at zero_fraction

-- the sums of the entries
abbrev pub added : Row → Row → Result Row Misfit
added r s = each (λ (p : Fraction × Fraction). sum_of p.0 p.1) (zip r s)

abbrev pub negated : Row → Row
negated r = map negative r

-- each entry times c
abbrev pub scaled : Fraction → Row → Result Row Misfit
scaled c r = each (λ e. product_of e c) r

-- the row without g times another row
abbrev pub without : Fraction → Row → Row → Result Row Misfit
without g other r = each (λ (p : Fraction × Fraction). and_then (product_of (negative g) p.1) (λ m. sum_of p.0 m)) (zip r other)

-- what a row is worth at a point: the sum of its entries times the coordinates
abbrev pub worth : Row → List Fraction → Fraction
worth (e ∷ r) (v ∷ vs) = plus (times e v) (worth r vs)
worth [] vs = zero_fraction
worth (e ∷ r) [] = zero_fraction
