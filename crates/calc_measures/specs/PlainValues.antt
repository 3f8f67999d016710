-- The plain value of a tree without symbols and roots, as exact arithmetic in 128 bits gives it.
use Rattle.std.specs.Prelude.{ℕ, zero, suc, ℤ, pos, negsuc, List, [], ◌∷◌, Bool, true, false, ◌&&◌, if◌then◌else◌}
use Rattle.calc_terms.specs.{Fractions.{Fraction, negative, one_fraction, whole_fraction, inverse, is_zero_fraction}, Fits.{Operation, add_op, mul_op, pow_op, result_of, operation_fits}, Trees.{Tree}}
use Rattle.calc_terms.specs.Trees.{num, symbol, undef, add, mult, power, root, neg, sub, div, Trees, none, more}

-- a rational, Undef, an overflow, or nothing
pub data PlainValue : Type 0 where
  exactly : Fraction → PlainValue
  undefined : PlainValue
  overflow : Operation → Fraction → Fraction → PlainValue
  nothing : PlainValue

-- the result of an operation that fits, and else its overflow
abbrev pub calculated : Operation → Fraction → Fraction → PlainValue
calculated op a b = if operation_fits op a b then exactly (result_of op a b) else overflow op a b

-- what the children decide: the first overflow or nothing, else Undef, else their values
pub data Gathered : Type 0 where
  decided : PlainValue → Gathered
  values : List Fraction → Gathered

-- one more child on the left
abbrev pub gather : PlainValue → Gathered → Gathered
gather (overflow op a b) g = decided (overflow op a b)
gather nothing g = decided nothing
gather undefined (values qs) = decided undefined
gather undefined (decided p) = decided p
gather (exactly q) (values qs) = values (q ∷ qs)
gather (exactly q) (decided p) = decided p

-- the values from left to right by one operation, up to an overflow
abbrev pub fold_values : Operation → Fraction → List Fraction → PlainValue
fold_values op q [] = exactly q
fold_values op q (r ∷ rs) = elim (calculated op q r) [ exactly x ↦ fold_values op x rs | undefined ↦ undefined | overflow o a b ↦ overflow o a b | nothing ↦ nothing ]

abbrev pub folded : Operation → Gathered → PlainValue
folded op (decided p) = p
folded op (values []) = nothing
folded op (values (q ∷ qs)) = fold_values op q qs

abbrev pub on_one : (Fraction → PlainValue) → Gathered → PlainValue
on_one f (values (q ∷ [])) = f q
on_one f (decided p) = p
on_one f _ = nothing

abbrev pub on_two : (Fraction → Fraction → PlainValue) → Gathered → PlainValue
on_two f (values (q ∷ r ∷ [])) = f q r
on_two f (decided p) = p
on_two f _ = nothing

-- the left times the inverse of the right
abbrev pub divided : Fraction → Fraction → PlainValue
divided a b = if is_zero_fraction b then undefined else calculated mul_op a (inverse b)

-- by a whole exponent; nothing for another
abbrev pub powered : Fraction → ℤ → ℕ → PlainValue
powered b (pos zero) (suc zero) = if is_zero_fraction b then undefined else exactly one_fraction
powered b (pos (suc n)) (suc zero) = calculated pow_op b (whole_fraction (pos (suc n)))
powered b (negsuc n) (suc zero) = if is_zero_fraction b then undefined else calculated pow_op (inverse b) (whole_fraction (pos (suc n)))
powered b _ _ = nothing

abbrev mutual
  pub plain_of : Tree → PlainValue
  plain_of (num q) = exactly q
  plain_of (symbol x) = nothing
  plain_of undef = undefined
  plain_of (add ts) = folded add_op (plain_of_children ts)
  plain_of (mult ts) = folded mul_op (plain_of_children ts)
  plain_of (neg a) = on_one (λ q. exactly (negative q)) (gather (plain_of a) (values []))
  plain_of (sub a b) = on_two (λ p q. calculated add_op p (negative q)) (gather (plain_of a) (gather (plain_of b) (values [])))
  plain_of (div a b) = on_two divided (gather (plain_of a) (gather (plain_of b) (values [])))
  plain_of (power b e) = on_two (λ p q. powered p q.num q.den) (gather (plain_of b) (gather (plain_of e) (values [])))
  plain_of (root a) = nothing

  pub plain_of_children : Trees → Gathered
  plain_of_children none = values []
  plain_of_children (more t ts) = gather (plain_of t) (plain_of_children ts)

-- it has no symbol and no root
abbrev mutual
  pub is_plain : Tree → Bool
  is_plain (symbol x) = false
  is_plain (root a) = false
  is_plain (add ts) = are_plain ts
  is_plain (mult ts) = are_plain ts
  is_plain (neg a) = is_plain a
  is_plain (sub a b) = is_plain a && is_plain b
  is_plain (div a b) = is_plain a && is_plain b
  is_plain (power b e) = is_plain b && is_plain e
  is_plain _ = true

  pub are_plain : Trees → Bool
  are_plain none = true
  are_plain (more t ts) = is_plain t && are_plain ts

-- the plain value, and nothing for a tree with a symbol or a root
abbrev pub plain_value : Tree → PlainValue
plain_value t = if is_plain t then plain_of t else nothing
