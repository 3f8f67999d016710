-- Reduced trees: the form that no rule of reduction changes.
use Rattle.std.specs.{declared.cmp.Ordering.TheVariants.{Less}, Prelude.{◌≡◌, ◌≢◌, ◌≤◌, ◌⊎◌, ⊤, Bool, true, false, ◌&&◌, ◌||◌, ◌==◌, not, nat_le, if◌then◌else◌}, Ordering.{is_lt}}
use Rattle.calc_terms.specs.{Integers.{int_is_negative, int_is_even}, Fractions.{Fraction, zero_fraction, one_fraction, is_zero_fraction, is_one_fraction}, Trees.{HasTwo, AllParts, Tree, num, symbol}}
use Rattle.calc_terms.specs.Trees.{undef, add, mult, power, root, neg, sub, div, Trees, none, more, has_two, is_num, is_add, is_mult, is_root, is_undef}
use Rattle.calc_algebra.specs.{TreeOrder.{tree_cmp}, Numbers.{IsNumber, Rises, is_radicand, is_term, is_number, terms_of, rises, classes}}

-- ---- powers

-- a rational with denominator 1
abbrev pub is_whole_num : Tree → Bool
is_whole_num (num q) = q.den == 1
is_whole_num _ = false

-- half of an odd whole number: a rational with denominator 2
abbrev pub is_half_num : Tree → Bool
is_half_num (num q) = q.den == 2
is_half_num _ = false

-- an exponent that makes a power opaque ("sealed"): a Number that is not whole
abbrev pub is_opaque_exponent : Tree → Bool
is_opaque_exponent e = is_number e && not (is_whole_num e)

-- a power that is not opaque
abbrev pub is_transparent_power : Tree → Bool
is_transparent_power (power b e) = not (is_opaque_exponent e)
is_transparent_power _ = false

-- the base of a factor: that of a transparent power, and the factor itself for any other
abbrev pub base_of : Tree → Tree
base_of (power b e) = if is_opaque_exponent e then power b e else b
base_of t = t

-- the form of a power with a whole exponent n
abbrev pub whole_power_form : Tree → Fraction → Bool
whole_power_form b n =
    not (is_zero_fraction n) && not (is_one_fraction n) && not (is_mult b) && not (is_transparent_power b)
    && (not (int_is_even n.num) || not (is_root b)) && (not (is_number b) || int_is_negative n.num && nat_le 3 (classes b))

-- the form of a power: its exponent is not half of an odd whole number, and where it is no whole number either, nothing
-- more is asked
abbrev pub power_form : Tree → Tree → Bool
power_form b (num q) = if q.den == 1 then whole_power_form b q else not (q.den == 2)
power_form b e = true

-- ---- coefficients

-- a product's leading Number, and the factors behind it
pub record Split : Type 0 where
  pub coefficient : Tree
  pub factors : Trees

abbrev pub split : Tree → Trees → Split
split c ts = record { coefficient = c; factors = ts }

abbrev pub num_one : Tree
num_one = num one_fraction

-- a coefficient of one class is spliced, one of more classes is an Add, and 1 is not written
abbrev pub split_product : Trees → Split
split_product (more (num q) (more (root (num r)) ts)) = if is_radicand r then split (mult (more (num q) (more (root (num r)) none))) ts else split (num q) (more (root (num r)) ts)
split_product (more (num q) ts) = split (num q) ts
split_product (more (root (num r)) ts) = if is_radicand r then split (root (num r)) ts else split num_one (more (root (num r)) ts)
split_product (more (add us) ts) = if is_number (add us) then split (add us) ts else split num_one (more (add us) ts)
split_product ts = split num_one ts

-- 1, the only factor, or a Mult
abbrev pub product_tree : Trees → Tree
product_tree none = num_one
product_tree (more t none) = t
product_tree ts = mult ts

-- the term without its coefficient
abbrev pub part_of : Tree → Tree
part_of (mult ts) = product_tree (split_product ts).factors
part_of t = t

-- ---- lists of terms and of factors

abbrev pub none_is : (Tree → Bool) → Trees → Bool
none_is p none = true
none_is p (more t ts) = not (p t) && none_is p ts

-- the keys rise strictly in the order of trees
abbrev pub rises_by : (Tree → Tree) → Trees → Bool
rises_by key (more t (more u ts)) = is_lt (tree_cmp (key t) (key u)) && rises_by key (more u ts)
rises_by key _ = true

-- the terms of a sum that make its Number
abbrev pub number_terms : Trees → Trees
number_terms none = none
number_terms (more t ts) = let r = number_terms ts in if is_term t then more t r else none

-- the terms behind them
abbrev pub other_terms : Trees → Trees
other_terms none = none
other_terms (more t ts) = let r = other_terms ts in if is_term t then r else more t ts

-- two terms or more, none an Add: those of one Number, then others whose parts rise
abbrev pub sum_form : Trees → Bool
sum_form ts = has_two ts && none_is is_add ts && rises (terms_of (number_terms ts)) && none_is is_number (other_terms ts) && rises_by part_of (other_terms ts)

-- a rational that is written in front is neither 0 nor 1
abbrev pub front_form : Trees → Bool
front_form (more (num q) ts) = not (is_zero_fraction q) && not (is_one_fraction q)
front_form _ = true

abbrev pub is_one_add : Trees → Bool
is_one_add (more (add us) none) = true
is_one_add _ = false

abbrev pub is_num_one : Tree → Bool
is_num_one (num q) = is_one_fraction q
is_num_one _ = false

-- a rational coefficient before exactly one factor, which is an Add
abbrev pub is_undistributed : Split → Bool
is_undistributed s = is_num s.coefficient && not (is_num_one s.coefficient) && is_one_add s.factors

-- two factors or more, none a Mult: a coefficient or none, then factors that are no Numbers, whose bases rise
abbrev pub product_form : Trees → Bool
product_form ts =
    let s = split_product ts in
    has_two ts && none_is is_mult ts && front_form ts && none_is is_number s.factors && rises_by base_of s.factors && not (is_undistributed s)

-- ---- reduced trees

abbrev pub node_form : Tree → Bool
node_form (symbol x) = true
node_form (root a) = not (is_num a)
node_form (power b e) = power_form b e
node_form (add ts) = sum_form ts
node_form (mult ts) = product_form ts
node_form _ = false

-- a Number, or a node in its form
abbrev pub has_form : Tree → Bool
has_form t = is_number t || node_form t

-- a test of the tree and of each of its parts
abbrev mutual
  pub all_parts : (Tree → Bool) → Tree → Bool
  all_parts p (add ts) = p (add ts) && all_parts_of p ts
  all_parts p (mult ts) = p (mult ts) && all_parts_of p ts
  all_parts p (power b e) = p (power b e) && all_parts p b && all_parts p e
  all_parts p (root a) = p (root a) && all_parts p a
  all_parts p (neg a) = p (neg a) && all_parts p a
  all_parts p (sub a b) = p (sub a b) && all_parts p a && all_parts p b
  all_parts p (div a b) = p (div a b) && all_parts p a && all_parts p b
  all_parts p t = p t

  pub all_parts_of : (Tree → Bool) → Trees → Bool
  all_parts_of p none = true
  all_parts_of p (more t ts) = all_parts p t && all_parts_of p ts

-- Undef, or each part has its form
unfoldable pub is_reduced : Tree → Bool
is_reduced t = is_undef t || all_parts has_form t

-- ---- the same in words

-- no tree of the list passes the test
abbrev pub NoneIs : (Tree → Bool) → Trees → Type 0
NoneIs p none = ⊤
NoneIs p (more t ts) = (p t ≡ false) × NoneIs p ts

-- the keys rise strictly in the order of trees
abbrev pub RisesBy : (Tree → Tree) → Trees → Type 0
RisesBy key (more t (more u ts)) = (tree_cmp (key t) (key u) ≡ Less) × RisesBy key (more u ts)
RisesBy key _ = ⊤

-- a base to a whole power n
pub record IsWholePowerForm (b : Tree) (n : Fraction) : Type 0 where
  pub not_zero : n ≢ zero_fraction
  pub not_one : n ≢ one_fraction
  pub no_product : is_mult b ≡ false
  pub no_power : is_transparent_power b ≡ false
  pub no_root : int_is_even n.num ≡ true → is_root b ≡ false
  pub wide : is_number b ≡ true → (int_is_negative n.num ≡ true) × (3 ≤ classes b)

-- nothing is asked of a power whose exponent is neither a whole number nor half of an odd one
abbrev pub IsPowerForm : Tree → Tree → Type 0
IsPowerForm b (num q) = (q.den ≢ 2) × (q.den ≡ 1 → IsWholePowerForm b q)
IsPowerForm b e = ⊤

pub record IsSumForm (ts : Trees) : Type 0 where
  pub two : HasTwo ts
  pub no_sum : NoneIs is_add ts
  pub number : Rises (terms_of (number_terms ts))
  pub no_number : NoneIs is_number (other_terms ts)
  pub rising : RisesBy part_of (other_terms ts)

-- a rational that is written in front is neither 0 nor 1
abbrev pub IsFrontForm : Trees → Type 0
IsFrontForm (more (num q) ts) = (q ≢ zero_fraction) × (q ≢ one_fraction)
IsFrontForm _ = ⊤

pub record IsProductForm (ts : Trees) : Type 0 where
  pub two : HasTwo ts
  pub no_product : NoneIs is_mult ts
  pub front : IsFrontForm ts
  pub no_number : NoneIs is_number (split_product ts).factors
  pub rising : RisesBy base_of (split_product ts).factors
  pub distributed : is_undistributed (split_product ts) ≡ false

abbrev pub IsNodeForm : Tree → Type 0
IsNodeForm (symbol x) = ⊤
IsNodeForm (root a) = is_num a ≡ false
IsNodeForm (power b e) = IsPowerForm b e
IsNodeForm (add ts) = IsSumForm ts
IsNodeForm (mult ts) = IsProductForm ts
IsNodeForm _ = ⊥

abbrev pub HasForm : Tree → Type 0
HasForm t = IsNumber t ⊎ IsNodeForm t

-- Undef, or each part has its form
abbrev pub IsReduced : Tree → Type 0
IsReduced t = (t ≡ undef) ⊎ AllParts HasForm t

-- each child is reduced
abbrev pub are_reduced : Trees → Bool
are_reduced none = true
are_reduced (more t ts) = is_reduced t && are_reduced ts
