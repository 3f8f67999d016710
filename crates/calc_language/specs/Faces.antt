-- The face of a reduced tree: how it is displayed, with minus signs, fraction bars and whole numbers at least 0.
use Rattle.std.specs.Prelude.{ℕ, zero, suc, ℤ, negsuc, nat_abs, Bool, true, false, ◌==◌, if◌then◌else◌}
use Rattle.calc_terms.specs.{Integers.{int_is_negative}, Trees.{Tree, num, symbol, undef, add, mult, power, root, neg, sub, div, Trees, none, more, whole_num}}
use Rattle.calc_language.specs.Grammar.{SoFar, single, as_tree, plus_term, minus_term}

-- a minus sign stands before the face: the leading rational is negative
abbrev pub has_minus : Tree → Bool
has_minus (num q) = int_is_negative q.num
has_minus (mult (more (num q) ts)) = int_is_negative q.num
has_minus _ = false

abbrev pub with_minus : Bool → Tree → Tree
with_minus true t = neg t
with_minus false t = t

-- n where the fraction is -n, and 0 for any other than a whole number below 0
abbrev pub below_zero : ℤ → ℕ → ℕ
below_zero (negsuc n) (suc zero) = suc n
below_zero _ _ = 0

-- n where a power with this exponent stands below the line as the power n, and 0 where it stands above
abbrev pub exponent_below : Tree → ℕ
exponent_below (num q) = below_zero q.num q.den
exponent_below _ = 0

-- n in front, unless it is 1
abbrev pub unless_one : ℕ → Trees → Trees
unless_one n ts = if n == 1 then ts else more (whole_num n) ts

-- 1, the only factor, or a Mult
abbrev pub product_of : Trees → Tree
product_of none = whole_num 1
product_of (more t none) = t
product_of (more t (more u ts)) = mult (more t (more u ts))

-- what is above, or a Div where something is below
abbrev pub fraction_of : Trees → Trees → Tree
fraction_of above none = product_of above
fraction_of above (more t ts) = div (product_of above) (product_of (more t ts))

-- b below the line, to the power n
abbrev pub power_below : Tree → ℕ → Tree
power_below b n = if n == 1 then b else power b (whole_num n)

-- the term behind those so far, by the grammar's rule for sums
abbrev pub next_term : SoFar → Bool → Tree → SoFar
next_term s true u = minus_term s u
next_term s false u = plus_term s u

abbrev mutual
  -- the face without its minus sign
  pub unsigned_face : Tree → Tree
  unsigned_face (num q) = fraction_of (unless_one (nat_abs q.num) none) (unless_one q.den none)
  unsigned_face (symbol x) = symbol x
  unsigned_face undef = undef
  unsigned_face (add ts) = face_of_sum ts
  unsigned_face (mult ts) = fraction_of (factors_above ts) (factors_below ts)
  unsigned_face (power b e) = elim (exponent_below e) [
    | zero ↦ power (with_minus (has_minus b) (unsigned_face b)) (with_minus (has_minus e) (unsigned_face e))
    | suc n ↦ fraction_of none (more (power_below (with_minus (has_minus b) (unsigned_face b)) (suc n)) none)
  ]
  unsigned_face (root a) = root (with_minus (has_minus a) (unsigned_face a))
  unsigned_face (neg a) = neg (with_minus (has_minus a) (unsigned_face a))
  unsigned_face (sub a b) = sub (with_minus (has_minus a) (unsigned_face a)) (with_minus (has_minus b) (unsigned_face b))
  unsigned_face (div a b) = div (with_minus (has_minus a) (unsigned_face a)) (with_minus (has_minus b) (unsigned_face b))

  -- what the factor puts above the line
  pub factor_above : Tree → Trees → Trees
  factor_above (num q) rest = unless_one (nat_abs q.num) rest
  factor_above (power b e) rest = elim (exponent_below e) [ zero ↦ more (power (with_minus (has_minus b) (unsigned_face b)) (with_minus (has_minus e) (unsigned_face e))) rest | suc n ↦ rest ]
  factor_above (root a) rest = more (root (with_minus (has_minus a) (unsigned_face a))) rest
  factor_above (add ts) rest = more (face_of_sum ts) rest
  factor_above t rest = more t rest

  -- what it puts below
  pub factor_below : Tree → Trees → Trees
  factor_below (num q) rest = unless_one q.den rest
  factor_below (power b e) rest = elim (exponent_below e) [ zero ↦ rest | suc n ↦ more (power_below (with_minus (has_minus b) (unsigned_face b)) (suc n)) rest ]
  factor_below t rest = rest

  pub factors_above : Trees → Trees
  factors_above none = none
  factors_above (more t ts) = factor_above t (factors_above ts)

  pub factors_below : Trees → Trees
  factors_below none = none
  factors_below (more t ts) = factor_below t (factors_below ts)

  -- the first term with its sign, then each next one
  pub face_of_sum : Trees → Tree
  face_of_sum none = add none
  face_of_sum (more t ts) = as_tree (next_terms (single (with_minus (has_minus t) (unsigned_face t))) ts)

  pub next_terms : SoFar → Trees → SoFar
  next_terms s none = s
  next_terms s (more t ts) = next_terms (next_term s (has_minus t) (unsigned_face t)) ts

abbrev pub face : Tree → Tree
face t = with_minus (has_minus t) (unsigned_face t)
