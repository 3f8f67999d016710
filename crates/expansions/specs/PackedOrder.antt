-- The order of packed monomials, which is that of their trees.
use Rattle.std.specs.{Prelude.{ℕ, zero, suc, ◌==◌, List, [], ◌∷◌, if◌then◌else◌}, declared.cmp.Ordering.{Ordering}, declared.cmp.Ordering.TheVariants.{Less, Equal, Greater}}
use Rattle.std.specs.Ordering.{nat_cmp, ordering_reverse}
use Rattle.calc_terms.specs.declared.kind.Kind.{Kind}
use Rattle.expansions.specs.{ExpandedTrees.{monomial_cmp}, Named.{named}}
use Rattle.polynomials.specs.{Packed.{monomial_of}, declared.term.Term.{Term}}
use Rattle.calc_terms.specs.declared.kind.Kind.TheVariants as kind

-- some eight names, in their order
abbrev pub eight_names : List (List ℕ)
eight_names = (0 ∷ []) ∷ (1 ∷ []) ∷ (2 ∷ []) ∷ (3 ∷ []) ∷ (4 ∷ []) ∷ (5 ∷ []) ∷ (6 ∷ []) ∷ (7 ∷ []) ∷ []

-- the order of the trees of two packed monomials, which is the same with any names
unfoldable pub packed_cmp : ℕ → ℕ → Ordering
packed_cmp k l = monomial_cmp (named eight_names (monomial_of k)) (named eight_names (monomial_of l))

abbrev pub packed_term_cmp : Term → Term → Ordering
packed_term_cmp s t = packed_cmp s.monomial t.monomial

-- ---- exponents in the order of their names

-- the first one that is not 0
abbrev pub first_exponent : List ℕ → ℕ
first_exponent [] = 0
first_exponent (zero ∷ es) = first_exponent es
first_exponent (suc e ∷ es) = suc e

-- the kind of a monomial's tree, whose factors have these exponents, and one other where that is not 0
abbrev pub kind_with : ℕ → List ℕ → Kind
kind_with zero [] = kind.Num
kind_with (suc d) [] = if d == 0 then kind.Sym else kind.Pow
kind_with d (zero ∷ es) = kind_with d es
kind_with zero (suc e ∷ es) = kind_with (suc e) es
kind_with (suc d) (suc e ∷ es) = kind.Mult

-- the order of a factor, whose exponent is e, or of no factor where that is 0, and one with the exponent f and a lower name
abbrev pub behind_cmp : ℕ → ℕ → Ordering
behind_cmp e f = if e == 0 then Less else if e == 1 then (if f == 1 then Greater else Less) else Greater

-- of the first factors with other exponents
abbrev pub first_cmp : ℕ → List ℕ → ℕ → List ℕ → Ordering
first_cmp e es f fs = if e == 0 then behind_cmp (first_exponent es) f else if f == 0 then ordering_reverse (behind_cmp (first_exponent fs) e) else nat_cmp e f

-- of the factors, one by one
abbrev pub exponents_cmp : List ℕ → List ℕ → Ordering
exponents_cmp (e ∷ es) (f ∷ fs) = if e == f then exponents_cmp es fs else first_cmp e es f fs
exponents_cmp _ _ = Equal
