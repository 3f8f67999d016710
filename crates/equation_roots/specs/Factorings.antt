-- Factorings of polynomials in one name into linear factors and what is left.
use Rattle.std.specs.{Prelude.{ℕ, suc, ◌≡◌, ◌≢◌, ◌≤◌, ◌<◌, ⊤, ℤ, pos, negsuc, nat_abs, List, [], ◌∷◌, ◌++◌, length, map, refl}, declared.cmp.Ordering.TheVariants.{Less}}
use Rattle.calc_terms.specs.Fractions.{Fraction, plus, times, negative, zero_fraction, one_fraction, lowest, fraction_cmp}
use Rattle.calc_algebra.specs.{Clean.{IsClean}, Surds.{Surd, term, surd_of, surd_scale, surd_times}, SquareClasses.{Same}}
use Rattle.equation_roots.specs.Coefficients.{Dense, HasLeading, at, worth, times_all}

-- what is left: 1; X^2 + 2hX + c without a root; or X^2 + bX + c with the roots m - s√t and m + s√t
pub data Rest : Type 0 where
  nothing : Rest
  rootless : Fraction → Fraction → Rest
  pair : Fraction → Fraction → Fraction → Fraction → ℕ → Rest

abbrev pub dense_of : Rest → Dense
dense_of nothing = one_fraction ∷ []
dense_of (rootless h c) = c ∷ plus h h ∷ one_fraction ∷ []
dense_of (pair b c m s t) = c ∷ b ∷ one_fraction ∷ []

-- m + s√t
abbrev pub upper : Fraction → Fraction → ℕ → Surd
upper m s t = term m 1 ∷ term s t ∷ []

-- m - s√t
abbrev pub lower : Fraction → Fraction → ℕ → Surd
lower m s t = upper m (negative s) t

abbrev pub IsBelowZero : Fraction → Type 0
IsBelowZero q = (n : ℕ) × (q.num ≡ negsuc n)

abbrev pub IsNotBelowZero : Fraction → Type 0
IsNotBelowZero q = (n : ℕ) × (q.num ≡ pos n)

abbrev pub IsAboveZero : Fraction → Type 0
IsAboveZero q = (n : ℕ) × (q.num ≡ pos (suc n))

-- by Vieta, class by class: their sum is -b, and their product c; s is above 0 and t is no square
pub record IsPair (b c m s : Fraction) (t : ℕ) : Type 0 where
  pub sum : Same (lower m s t ++ upper m s t) (surd_of (negative b))
  pub product : Same (surd_times (lower m s t) (upper m s t)) (surd_of c)
  pub clean : IsClean t
  pub irrational : 2 ≤ t
  pub order : IsAboveZero s

-- v - r
abbrev pub less : Surd → Surd → Surd
less v r = v ++ surd_scale (negative one_fraction) r

-- the product of v - q for each q of a list, times w
abbrev pub product_at : List Fraction → Surd → Surd → Surd
product_at [] v w = w
product_at (q ∷ qs) v w = surd_times (less v (surd_of q)) (product_at qs v w)

abbrev pub IsRest : Rest → Type 0
IsRest nothing = ⊤
IsRest (rootless h c) = IsBelowZero (plus (times h h) (negative c))
IsRest (pair b c m s t) = IsPair b c m s t

-- the irrational roots of what is left: two or none
abbrev pub surds_of : Rest → List Surd
surds_of nothing = []
surds_of (rootless h c) = []
surds_of (pair b c m s t) = lower m s t ∷ upper m s t ∷ []

-- all roots: the rational ones, and then the others
abbrev pub roots_of : List Fraction → Rest → List Surd
roots_of qs rest = map surd_of qs ++ surds_of rest

-- a radicand that is left is below n
abbrev pub HasRadicandBelow : ℕ → Rest → Type 0
HasRadicandBelow n nothing = ⊤
HasRadicandBelow n (rootless h c) = ⊤
HasRadicandBelow n (pair b c m s t) = t < n

abbrev pub AreRising : List Fraction → Type 0
AreRising [] = ⊤
AreRising (q ∷ []) = ⊤
AreRising (q ∷ r ∷ qs) = (fraction_cmp r q ≢ Less) × AreRising (r ∷ qs)

denial_prop : {A : Type 0} → IsProp (A → ⊥)
denial_prop x y = λ i e. (let same : x e ≡ y e = absurd (x e) in same i)

-- that fractions rise has one proof
pub AreRising_prop : (qs : List Fraction) → IsProp (AreRising qs)
AreRising_prop [] = λ x y. refl
AreRising_prop (q ∷ []) = λ x y. refl
AreRising_prop (q ∷ r ∷ qs) = λ x y. λ i. (denial_prop x.0 y.0 i, AreRising_prop (r ∷ qs) x.1 y.1 i)

-- p is lead times the product of all X - q, times what is left, coefficient by coefficient
pub record IsFactoring (p : Dense) (qs : List Fraction) (rest : Rest) : Type 0 where
  pub lead : Fraction
  pub not_zero : lead ≢ zero_fraction
  pub equal : (k : ℕ) → at k p ≡ times lead (at k (times_all qs (dense_of rest)))
  pub left : IsRest rest
  pub rising : AreRising qs

abbrev pub IsWithin : ℕ → ℤ → ℕ → Type 0
IsWithin bound u v = (nat_abs u ≤ bound) × (1 ≤ v) × (v ≤ bound)

-- something of degree 3 or more is left, and no u/v within the bound is its root
pub record IsBeyond (p : Dense) : Type 0 where
  pub found : List Fraction
  pub left : Dense
  pub equal : (k : ℕ) → at k p ≡ at k (times_all found left)
  pub degree : 4 ≤ length left
  pub leading : HasLeading left
  pub none : (u : ℤ) (v : ℕ) → IsWithin 1000 u v → ¬ (Same (worth left (surd_of (lowest u v))) [])
