-- Polynomials: sums of a fraction times a monomial each, not joined and not sorted. A monomial is an exponent for each name.
use Rattle.std.specs.Prelude.{ℕ, zero, suc, ◌+◌, ◌≡◌, ◌≤◌, ⊤, ◌==◌, ◌&&◌, Bool, true, false, List, [], ◌∷◌, ◌++◌, map, replicate, if◌then◌else◌}
use Rattle.calc_terms.specs.Fractions.{Fraction, plus, times, zero_fraction, one_fraction}

-- ---- monomials

-- the exponent of each name
abbrev pub Monomial : Type 0
Monomial = List ℕ

-- the exponents of each name are added, and behind the last one they are 0
abbrev pub monomial_times : Monomial → Monomial → Monomial
monomial_times [] n = n
monomial_times (x ∷ m) [] = x ∷ m
monomial_times (x ∷ m) (y ∷ n) = (x + y) ∷ monomial_times m n

-- no exponent is above d
abbrev pub HasExponents : ℕ → Monomial → Type 0
HasExponents d [] = ⊤
HasExponents d (x ∷ m) = (x ≤ d) × HasExponents d m

-- ---- polynomials

-- a fraction times a monomial
pub record Summand : Type 0 where
  pub coefficient : Fraction
  pub monomial : Monomial

abbrev pub summand : Fraction → Monomial → Summand
summand q m = record { coefficient = q; monomial = m }

-- the sum of its summands
abbrev pub Polynomial : Type 0
Polynomial = List Summand

-- what it is worth where each monomial is worth a fraction
abbrev pub worth : (Monomial → Fraction) → Polynomial → Fraction
worth g [] = zero_fraction
worth g (s ∷ v) = plus (times s.coefficient (g s.monomial)) (worth g v)

-- the same polynomial: they are worth the same, whatever the monomials are worth
pub record AreSame (v w : Polynomial) : Type 0 where
  pub at : (g : Monomial → Fraction) → worth g v ≡ worth g w

abbrev pub is_same_monomial : Monomial → Monomial → Bool
is_same_monomial [] [] = true
is_same_monomial (x ∷ m) (y ∷ n) = (x == y) && is_same_monomial m n
is_same_monomial _ _ = false

-- the sum of the fractions that stand with a monomial
abbrev pub coefficient_at : Monomial → Polynomial → Fraction
coefficient_at m [] = zero_fraction
coefficient_at m (s ∷ v) = if is_same_monomial s.monomial m then plus s.coefficient (coefficient_at m v) else coefficient_at m v

-- of each monomial
abbrev pub HaveExponents : ℕ → Polynomial → Type 0
HaveExponents d [] = ⊤
HaveExponents d (s ∷ v) = HasExponents d s.monomial × HaveExponents d v

-- ---- arithmetic

abbrev pub summand_times : Summand → Summand → Summand
summand_times s t = summand (times s.coefficient t.coefficient) (monomial_times s.monomial t.monomial)

-- each summand times s
abbrev pub row : Summand → Polynomial → Polynomial
row s w = map (summand_times s) w

-- each fraction times c
abbrev pub scaled : Fraction → Polynomial → Polynomial
scaled c v = map (λ s. summand (times c s.coefficient) s.monomial) v

-- all pairs
abbrev pub product : Polynomial → Polynomial → Polynomial
product [] w = []
product (s ∷ v) w = row s w ++ product v w

-- the monomial without names
abbrev pub one_monomial : Monomial
one_monomial = replicate 8 0

abbrev pub constant : Fraction → Polynomial
constant q = summand q one_monomial ∷ []

-- n factors v
abbrev pub raised : Polynomial → ℕ → Polynomial
raised v zero = constant one_fraction
raised v (suc n) = product v (raised v n)
