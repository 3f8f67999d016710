-- The names of packed monomials, and the polynomials of sorted lists of terms.
use Rattle.std.specs.{Prelude.{ℕ, zero, suc, ◌≡◌, ◌≢◌, ◌≤◌, ⊤, List, [], ◌∷◌, map, length, reverse, Contains, ◌⊎◌}, declared.cmp.Ordering.TheVariants.{Less}, Ordering.{nat_cmp}}
use Rattle.std.specs.Cmp.Lexicographic.{slice_cmp}
use Rattle.calc_terms.specs.{Leaf.{name_of}, declared.name.Name.{Name}}
use Rattle.expansions.specs.{Polynomials.{Monomial, Polynomial, factor, summand}, Sums.{AreSame}}
use Rattle.polynomials.specs.{Polynomials.{Monomial as Exponents, Polynomial as PackedPolynomial, AreSame as AreSameValues}, Terms.{IsNormal, polynomial_of}, declared.term.Term.{Term}}

-- ---- names

-- the name is below all of these
abbrev pub IsBelowNames : List ℕ → List (List ℕ) → Type 0
IsBelowNames x [] = ⊤
IsBelowNames x (y ∷ ns) = (slice_cmp nat_cmp x y ≡ Less) × IsBelowNames x ns

-- names rise by their bytes
abbrev pub AreNames : List (List ℕ) → Type 0
AreNames [] = ⊤
AreNames (x ∷ ns) = IsBelowNames x ns × AreNames ns

-- these names are below one
abbrev pub AreNamesBelow : List ℕ → List (List ℕ) → Type 0
AreNamesBelow x [] = ⊤
AreNamesBelow x (y ∷ ns) = (slice_cmp nat_cmp y x ≡ Less) × AreNamesBelow x ns

-- that of the first is not
abbrev pub StartNamesFrom : List ℕ → List (List ℕ) → Type 0
StartNamesFrom x [] = ⊤
StartNamesFrom x (y ∷ ns) = slice_cmp nat_cmp y x ≢ Less

-- each of these names is one of the others
abbrev pub AreAmong : List (List ℕ) → List (List ℕ) → Type 0
AreAmong ns xs = (x : List ℕ) → Contains xs x → Contains ns x

-- the name is one of these
abbrev pub HasName : List ℕ → List (List ℕ) → Type 0
HasName x [] = ⊥
HasName x (y ∷ ns) = (y ≡ x) ⊎ HasName x ns

-- names as the code has them
abbrev pub names_of : List Name → List (List ℕ)
names_of xs = map name_of xs

-- ---- monomials

-- a name with its exponent before other factors, unless it is 0
abbrev pub led : List ℕ → ℕ → Monomial → Monomial
led x zero m = m
led x (suc e) m = factor x (suc e) ∷ m

-- the factors of the names whose exponent is not 0
abbrev pub factors_of : List (List ℕ) → Exponents → Monomial
factors_of [] es = []
factors_of (x ∷ ns) [] = []
factors_of (x ∷ ns) (e ∷ es) = led x e (factors_of ns es)

-- of a packed monomial, in which the first name's exponent stands in the highest bits
abbrev pub named : List (List ℕ) → Exponents → Monomial
named ns es = factors_of ns (reverse es)

-- no exponent is above 0
abbrev pub AreZero : Exponents → Type 0
AreZero [] = ⊤
AreZero (e ∷ es) = (e ≡ 0) × AreZero es

-- there are no exponents but those of the names
abbrev pub AreOf : List (List ℕ) → Exponents → Type 0
AreOf [] es = AreZero es
AreOf (x ∷ ns) [] = ⊤
AreOf (x ∷ ns) (e ∷ es) = AreOf ns es

-- eight exponents, of which all are those of the names
abbrev pub IsOfNames : List (List ℕ) → Exponents → Type 0
IsOfNames ns es = (length es ≡ 8) × AreOf ns (reverse es)

-- ---- polynomials

abbrev pub named_polynomial : List (List ℕ) → PackedPolynomial → Polynomial
named_polynomial ns v = map (λ s. summand s.coefficient (named ns s.monomial)) v

-- each packed monomial is one of the names
abbrev pub HaveNames : List (List ℕ) → PackedPolynomial → Type 0
HaveNames ns [] = ⊤
HaveNames ns (s ∷ v) = IsOfNames ns s.monomial × HaveNames ns v

-- the same as a polynomial whose monomials are those of the names
pub record IsWithin (ns : List (List ℕ)) (v : PackedPolynomial) : Type 0 where
  pub alike : PackedPolynomial
  pub named : HaveNames ns alike
  pub same : AreSameValues v alike

-- sorted terms with the coefficients of a polynomial, whose exponents are those of at most eight names
pub record IsListOf (ns : List (List ℕ)) (ts : List Term) (v : Polynomial) : Type 0 where
  pub names : AreNames ns
  pub few : length ns ≤ 8
  pub normal : IsNormal ts
  pub within : IsWithin ns (polynomial_of ts)
  pub same : AreSame (named_polynomial ns (polynomial_of ts)) v
