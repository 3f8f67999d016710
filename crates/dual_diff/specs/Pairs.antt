-- A value and its slope with respect to one name. In mathematics such a pair is a dual number, value + slope·ε, where ε² is 0.
use Rattle.std.specs.{Prelude.{ℕ, zero, suc, ◌≡◌, ◌⊎◌, ℤ, pos, negsuc, List, [], ◌++◌, true, false, if◌then◌else◌, Some}, Str.{bytes_eq}}
use Rattle.calc_terms.specs.{Fractions.{Fraction, quotient, whole_fraction, minus_one_fraction}, Trees.{Tree, num, symbol, undef, add, mult, power, root, neg, sub, div, Trees, none, more}}
use Rattle.calc_algebra.specs.{Surds.{Surd, surd_one, surd_scale, surd_times, surd_power}, SquareClasses.{Same, Inverts}, Meanings.{Assignment, IsWholePower, IsRoot, Means}}
use Rattle.calc_measures.specs.Literals.{whole_literal}
use Rattle.dual_diff.specs.Occurring.{occurs}

pub record Pair : Type 0 where
  pub value : Surd
  pub slope : Surd

-- equal class by class, in value and in slope
pub record SamePair (p q : Pair) : Type 0 where
  pub values : Same p.value q.value
  pub slopes : Same p.slope q.slope

-- ---- arithmetic

abbrev pub pair_zero : Pair
pair_zero = record { value = []; slope = [] }

abbrev pub pair_one : Pair
pair_one = record { value = surd_one; slope = [] }

abbrev pub pair_plus : Pair → Pair → Pair
pair_plus p q = record { value = p.value ++ q.value; slope = p.slope ++ q.slope }

abbrev pub pair_scale : Fraction → Pair → Pair
pair_scale c p = record { value = surd_scale c p.value; slope = surd_scale c p.slope }

abbrev pub pair_minus : Pair → Pair → Pair
pair_minus p q = pair_plus p (pair_scale minus_one_fraction q)

-- (w + w'ε)(u + u'ε) = wu + (wu' + w'u)ε
abbrev pub pair_times : Pair → Pair → Pair
pair_times p q = record { value = surd_times p.value q.value; slope = surd_times p.value q.slope ++ surd_times p.slope q.value }

-- p times y - q'yyε, where y inverts the value of q
abbrev pub pair_over : Pair → Pair → Surd → Pair
pair_over p q y = record {
  value = surd_times p.value y;
  slope = surd_times p.slope y ++ surd_scale minus_one_fraction (surd_times p.value (surd_times q.slope (surd_times y y)));
}

-- d is n w' times w to the power n - 1, for w + w'ε
abbrev pub IsPowerSlope : ℤ → Pair → Surd → Type 0
IsPowerSlope (pos zero) q d = Same d []
IsPowerSlope (pos (suc zero)) q d = Same d q.slope
IsPowerSlope (pos (suc (suc n))) q d = Same d (surd_scale (whole_fraction (pos (suc (suc n)))) (surd_times (surd_power q.value (suc n)) q.slope))
IsPowerSlope (negsuc n) q d = (y : Surd) × Inverts y q.value × Same d (surd_scale (whole_fraction (negsuc n)) (surd_times (surd_power y (suc (suc n))) q.slope))

-- p is q to the power n
pub record IsPowerPair (n : ℤ) (q p : Pair) : Type 0 where
  pub value : IsWholePower n q.value p.value
  pub slope : IsPowerSlope n q p.slope

-- p is the square root of q; it has an inverse y, so q is above 0
pub record IsRootPair (q p : Pair) : Type 0 where
  pub value : IsRoot q.value p.value
  pub inverse : Surd
  pub inverts : Inverts inverse p.value
  pub slope : Same p.slope (surd_scale (quotient 1 2) (surd_times q.slope inverse))

-- ---- trees

-- a tree that does not hold the name has its meanings, which do not change with it
pub record IsStill (x : List ℕ) (t : Tree) (f : Assignment) (p : Pair) : Type 0 where
  pub absent : occurs x t ≡ false
  pub value : Means t f p.value
  pub slope : Same p.slope []

-- p is a pair of the tree under f, with respect to the name x
abbrev mutual
  pub HasPair : List ℕ → Tree → Assignment → Pair → Type 0
  HasPair x (num q) f p = Means (num q) f p.value × Same p.slope []
  HasPair x (symbol y) f p = Means (symbol y) f p.value × Same p.slope (if bytes_eq y x then surd_one else [])
  HasPair x undef f p = ⊥
  HasPair x (add ts) f p = (q : Pair) × HasPairSum x ts f q × SamePair p q
  HasPair x (mult ts) f p = (q : Pair) × HasPairProduct x ts f q × SamePair p q
  HasPair x (neg a) f p = (q : Pair) × HasPair x a f q × SamePair p (pair_scale minus_one_fraction q)
  HasPair x (sub a b) f p = (q r : Pair) × HasPair x a f q × HasPair x b f r × SamePair p (pair_minus q r)
  HasPair x (div a b) f p = (q r : Pair) × (y : Surd) × HasPair x a f q × HasPair x b f r × Inverts y r.value × SamePair p (pair_over q r y)
  HasPair x (power b e) f p = IsStill x (power b e) f p ⊎ ((q : Pair) × (n : ℤ) × HasPair x b f q × (occurs x (power b e) ≡ true) × (whole_literal e ≡ Some n) × IsPowerPair n q p)
  HasPair x (root a) f p = IsStill x (root a) f p ⊎ ((q : Pair) × HasPair x a f q × (occurs x a ≡ true) × IsRootPair q p)

  -- p is the sum of pairs of the children
  pub HasPairSum : List ℕ → Trees → Assignment → Pair → Type 0
  HasPairSum x none f p = p ≡ pair_zero
  HasPairSum x (more t ts) f p = (q r : Pair) × HasPair x t f q × HasPairSum x ts f r × (p ≡ pair_plus q r)

  -- p is their product
  pub HasPairProduct : List ℕ → Trees → Assignment → Pair → Type 0
  HasPairProduct x none f p = p ≡ pair_one
  HasPairProduct x (more t ts) f p = (q r : Pair) × HasPair x t f q × HasPairProduct x ts f r × (p ≡ pair_times q r)
