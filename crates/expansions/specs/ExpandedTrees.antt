-- The expanded tree of a polynomial: the reduced sum of one term for each monomial whose coefficient is not 0.
use Rattle.std.specs.{Prelude.{◌≡◌, ◌≢◌, ⊤, ◌==◌, [], ◌∷◌, if◌then◌else◌}, declared.cmp.Ordering.{Ordering}, declared.cmp.Ordering.TheVariants.{Less, Equal, Greater}}
use Rattle.calc_algebra.specs.{Reduced.{product_tree}, TreeOrder.{tree_cmp}}
use Rattle.calc_terms.specs.{Fractions.{plus, zero_fraction, is_one_fraction, is_zero_fraction}, Trees.{Tree, num, symbol, add, power, Trees, none, more, whole_num}}
use Rattle.expansions.specs.Polynomials.{Factor, Monomial, Polynomial, Summand, summand}

-- ---- monomials as trees

-- a name, or its power with an exponent of at least 2
abbrev pub factor_tree : Factor → Tree
factor_tree f = if f.exponent == 1 then symbol f.name else power (symbol f.name) (whole_num f.exponent)

abbrev pub factor_trees : Monomial → Trees
factor_trees [] = none
factor_trees (f ∷ m) = more (factor_tree f) (factor_trees m)

-- 1 for the empty monomial, the only factor, or a product
abbrev pub monomial_tree : Monomial → Tree
monomial_tree m = product_tree (factor_trees m)

-- in the order of their trees, so that the empty monomial is the first
abbrev pub monomial_cmp : Monomial → Monomial → Ordering
monomial_cmp m n = tree_cmp (monomial_tree m) (monomial_tree n)

-- a coefficient other than 1 stands in front of the factors
abbrev pub term_tree : Summand → Tree
term_tree s = if is_one_fraction s.coefficient then monomial_tree s.monomial else product_tree (more (num s.coefficient) (factor_trees s.monomial))

-- ---- normal polynomials

-- the monomial is before those of all summands
abbrev pub IsBeforeAll : Monomial → Polynomial → Type 0
IsBeforeAll m [] = ⊤
IsBeforeAll m (s ∷ v) = (monomial_cmp m s.monomial ≡ Less) × IsBeforeAll m v

-- no fraction is 0, and monomials rise
abbrev pub IsNormal : Polynomial → Type 0
IsNormal [] = ⊤
IsNormal (s ∷ v) = (s.coefficient ≢ zero_fraction) × IsBeforeAll s.monomial v × IsNormal v

-- one more summand, whose fraction is added to that of its monomial
abbrev pub with_summand : Summand → Polynomial → Polynomial
with_summand s [] = s ∷ []
with_summand s (t ∷ v) = elim (monomial_cmp s.monomial t.monomial) [
  | Less ↦ s ∷ t ∷ v
  | Equal ↦ summand (plus s.coefficient t.coefficient) s.monomial ∷ v
  | Greater ↦ t ∷ with_summand s v
]

-- the fractions of each monomial are added
abbrev pub joined : Polynomial → Polynomial
joined [] = []
joined (s ∷ v) = with_summand s (joined v)

abbrev pub without_zeros : Polynomial → Polynomial
without_zeros [] = []
without_zeros (s ∷ v) = if is_zero_fraction s.coefficient then without_zeros v else s ∷ without_zeros v

-- the normal polynomial with the same coefficients
abbrev pub normal : Polynomial → Polynomial
normal v = without_zeros (joined v)

-- ---- their trees

abbrev pub term_trees : Polynomial → Trees
term_trees [] = none
term_trees (s ∷ v) = more (term_tree s) (term_trees v)

-- 0, the only term, or an Add
abbrev pub sum_tree : Trees → Tree
sum_tree none = num zero_fraction
sum_tree (more t none) = t
sum_tree ts = add ts

abbrev pub expanded : Polynomial → Tree
expanded v = sum_tree (term_trees (normal v))
