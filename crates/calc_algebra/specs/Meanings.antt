-- What an expression means under an assignment of fractions to names.
use Rattle.std.specs.Prelude.{ℕ, zero, suc, ◌*◌, ◌≡◌, ◌⊎◌, ℤ, pos, negsuc, List, [], ◌∷◌, ◌++◌, map, Contains, ⊤}
use Rattle.calc_terms.specs.{Fractions.{Fraction, lowest, whole_fraction, minus_one_fraction}, Trees.{Tree, num, symbol, undef, add, mult, power, root, neg, sub, div, Trees, none, more}}
use Rattle.calc_algebra.specs.{Surds.{Surd, term, surd_of, surd_one, surd_scale, surd_times, surd_power}, SquareClasses.{Same, Inverts}}

-- a name and the fraction that it stands for
pub record Binding : Type 0 where
  pub name : List ℕ
  pub value : Fraction

abbrev pub Assignment : Type 0
Assignment = List Binding

abbrev pub bound_names : Assignment → List (List ℕ)
bound_names f = map (λ b. b.name) f

-- each name once
abbrev pub IsAssignment : Assignment → Type 0
IsAssignment [] = ⊤
IsAssignment (b ∷ f) = ¬ (Contains (bound_names f) b.name) × IsAssignment f

-- f gives x the fraction q
abbrev pub Gives : Assignment → List ℕ → Fraction → Type 0
Gives f x q = Contains f (record { name = x; value = q })

-- v is w to the power n
abbrev pub IsWholePower : ℤ → Surd → Surd → Type 0
IsWholePower (pos zero) w v = ¬ (Same w []) × Same v surd_one
IsWholePower (pos (suc n)) w v = Same v (surd_power w (suc n))
IsWholePower (negsuc n) w v = (y : Surd) × Inverts y w × Same v (surd_power y (suc n))

-- v is the square root of p/q
abbrev pub IsRootOf : ℤ → ℕ → Surd → Type 0
IsRootOf (pos zero) q v = Same v []
IsRootOf (pos (suc p)) q v = Same v (term (lowest (pos 1) q) (suc p * q) ∷ [])
IsRootOf (negsuc p) q v = ⊥

-- the row of roots: argument x, value v
abbrev pub IsRoot : Surd → Surd → Type 0
IsRoot x v = (q : Fraction) × Same x (surd_of q) × IsRootOf q.num q.den v

-- base w, exponent x, value v, where the exponent is a whole number
abbrev pub IsPowerByWhole : Surd → Surd → Surd → Type 0
IsPowerByWhole w x v = (n : ℤ) × Same x (surd_of (whole_fraction n)) × IsWholePower n w v

-- and where it is half of an odd whole number, a fraction h with denominator 2: the square root u of w to that number
abbrev pub IsPowerByHalf : Surd → Surd → Surd → Type 0
IsPowerByHalf w x v = (h : Fraction) × (h.den ≡ 2) × Same x (surd_of h) × (u : Surd) × IsRoot w u × IsWholePower h.num u v

-- the row of powers
abbrev pub IsPower : Surd → Surd → Surd → Type 0
IsPower w x v = IsPowerByWhole w x v ⊎ IsPowerByHalf w x v

-- v is a meaning of the tree under f
abbrev mutual
  pub Means : Tree → Assignment → Surd → Type 0
  Means (num q) f v = Same v (surd_of q)
  Means (symbol x) f v = (q : Fraction) × Gives f x q × Same v (surd_of q)
  Means undef f v = ⊥
  Means (add ts) f v = (w : Surd) × MeansSum ts f w × Same v w
  Means (mult ts) f v = (w : Surd) × MeansProduct ts f w × Same v w
  Means (neg a) f v = (w : Surd) × Means a f w × Same v (surd_scale minus_one_fraction w)
  Means (sub a b) f v = (w u : Surd) × Means a f w × Means b f u × Same v (w ++ surd_scale minus_one_fraction u)
  Means (div a b) f v = (w u y : Surd) × Means a f w × Means b f u × Inverts y u × Same v (surd_times w y)
  Means (power b e) f v = (w x : Surd) × Means b f w × Means e f x × IsPower w x v
  Means (root a) f v = (x : Surd) × Means a f x × IsRoot x v

  -- v is the children's meanings joined
  pub MeansSum : Trees → Assignment → Surd → Type 0
  MeansSum none f v = v ≡ []
  MeansSum (more t ts) f v = (a b : Surd) × Means t f a × MeansSum ts f b × (v ≡ a ++ b)

  -- v is the children's meanings multiplied
  pub MeansProduct : Trees → Assignment → Surd → Type 0
  MeansProduct none f v = v ≡ surd_one
  MeansProduct (more t ts) f v = (a b : Surd) × Means t f a × MeansProduct ts f b × (v ≡ surd_times a b)
