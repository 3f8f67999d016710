-- Polynomials: lists of a fraction and a monomial each, not joined and not sorted.
use Rattle.std.specs.{Prelude.{ℕ, zero, suc, ◌+◌, ◌≡◌, ◌≤◌, ⊤, Bool, true, false, ◌&&◌, ◌==◌, List, [], ◌∷◌, ◌++◌, map, if◌then◌else◌}, Str.{bytes_eq}}
use Rattle.std.specs.{declared.cmp.Ordering.TheVariants.{Less, Equal, Greater}, Ordering.{nat_cmp}, Cmp.Lexicographic.{slice_cmp}}
use Rattle.calc_terms.specs.Fractions.{Fraction, plus, times, zero_fraction, one_fraction}

-- ---- monomials

-- a name and its exponent
pub record Factor : Type 0 where
  pub name : List ℕ
  pub exponent : ℕ

abbrev pub Monomial : Type 0
Monomial = List Factor

abbrev pub factor : List ℕ → ℕ → Factor
factor x n = record { name = x; exponent = n }

-- the name is below those of all factors
abbrev pub IsBelowAll : List ℕ → Monomial → Type 0
IsBelowAll x [] = ⊤
IsBelowAll x (f ∷ m) = (slice_cmp nat_cmp x f.name ≡ Less) × IsBelowAll x m

-- exponents are at least 1, and names rise by their bytes
abbrev pub IsMonomial : Monomial → Type 0
IsMonomial [] = ⊤
IsMonomial (f ∷ m) = (1 ≤ f.exponent) × IsBelowAll f.name m × IsMonomial m

-- one more factor, whose exponent is added to that of its name
abbrev pub with_factor : Factor → Monomial → Monomial
with_factor f [] = f ∷ []
with_factor f (g ∷ m) = elim (slice_cmp nat_cmp f.name g.name) [
  | Less ↦ f ∷ g ∷ m
  | Equal ↦ factor f.name (f.exponent + g.exponent) ∷ m
  | Greater ↦ g ∷ with_factor f m
]

-- the exponents of each name are added
abbrev pub monomial_times : Monomial → Monomial → Monomial
monomial_times [] n = n
monomial_times (f ∷ m) n = with_factor f (monomial_times m n)

abbrev pub is_same_monomial : Monomial → Monomial → Bool
is_same_monomial [] [] = true
is_same_monomial (f ∷ m) (g ∷ n) = bytes_eq f.name g.name && (f.exponent == g.exponent) && is_same_monomial m n
is_same_monomial _ _ = false

-- ---- polynomials

-- a fraction times a monomial
pub record Summand : Type 0 where
  pub coefficient : Fraction
  pub monomial : Monomial

abbrev pub summand : Fraction → Monomial → Summand
summand q m = record { coefficient = q; monomial = m }

-- the sum of its summands
abbrev pub Polynomial : Type 0
Polynomial = List Summand

-- the sum of the fractions that stand with a monomial
abbrev pub coefficient_at : Monomial → Polynomial → Fraction
coefficient_at m [] = zero_fraction
coefficient_at m (s ∷ v) = if is_same_monomial s.monomial m then plus s.coefficient (coefficient_at m v) else coefficient_at m v

-- each monomial is one
abbrev pub AreMonomials : Polynomial → Type 0
AreMonomials [] = ⊤
AreMonomials (s ∷ v) = IsMonomial s.monomial × AreMonomials v

-- ---- arithmetic

abbrev pub constant : Fraction → Polynomial
constant q = summand q [] ∷ []

abbrev pub variable : List ℕ → Polynomial
variable x = summand one_fraction (factor x 1 ∷ []) ∷ []

-- each fraction times c
abbrev pub scaled : Fraction → Polynomial → Polynomial
scaled c v = map (λ s. summand (times c s.coefficient) s.monomial) v

abbrev pub summand_times : Summand → Summand → Summand
summand_times s t = summand (times s.coefficient t.coefficient) (monomial_times s.monomial t.monomial)

-- all pairs
abbrev pub product : Polynomial → Polynomial → Polynomial
product [] w = []
product (s ∷ v) w = map (summand_times s) w ++ product v w

-- n factors v
abbrev pub raised : Polynomial → ℕ → Polynomial
raised v zero = constant one_fraction
raised v (suc n) = product v (raised v n)
