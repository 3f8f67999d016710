-- Linear trees.
use Rattle.std.specs.Prelude.{ℕ, ◌+◌, Bool, true, false, not, ◌&&◌, ◌||◌, nat_le, if◌then◌else◌, Option, Some, None}
use Rattle.calc_terms.specs.declared.kind.Kind.{Kind}
use Rattle.calc_terms.specs.declared.kind.Kind.TheVariants as kind
use Rattle.calc_terms.specs.{Fractions.{is_zero_fraction}, Trees.{Tree, num, symbol, undef, add, mult, power, root, neg, sub, div, Trees, none, more}}

-- the tree holds a name
abbrev mutual
  pub has_name : Tree → Bool
  has_name (num q) = false
  has_name (symbol x) = true
  has_name undef = false
  has_name (add ts) = have_name ts
  has_name (mult ts) = have_name ts
  has_name (power b e) = has_name b || has_name e
  has_name (root a) = has_name a
  has_name (neg a) = has_name a
  has_name (sub a b) = has_name a || has_name b
  has_name (div a b) = has_name a || has_name b

  -- one of the trees does
  pub have_name : Trees → Bool
  have_name none = false
  have_name (more t ts) = has_name t || have_name ts

-- how many of the trees hold a name
abbrev pub count_named : Trees → ℕ
count_named none = 0
count_named (more t ts) = (if has_name t then 1 else 0) + count_named ts

-- a rational other than 0
abbrev pub is_nonzero : Tree → Bool
is_nonzero (num q) = not (is_zero_fraction q)
is_nonzero _ = false

-- a rational other than 0, or the opposite of one
abbrev pub is_divisor : Tree → Bool
is_divisor (neg a) = is_nonzero a
is_divisor t = is_nonzero t

-- rationals and names, sums, opposites and differences of linear trees, products of linear trees of which at most one
-- holds a name, and quotients of a linear tree and a divisor
abbrev mutual
  pub is_linear : Tree → Bool
  is_linear (num q) = true
  is_linear (symbol x) = true
  is_linear undef = false
  is_linear (add ts) = are_linear ts
  is_linear (mult ts) = are_linear ts && nat_le (count_named ts) 1
  is_linear (power b e) = false
  is_linear (root a) = false
  is_linear (neg a) = is_linear a
  is_linear (sub a b) = is_linear a && is_linear b
  is_linear (div a c) = is_linear a && is_divisor c

  pub are_linear : Trees → Bool
  are_linear none = true
  are_linear (more t ts) = is_linear t && are_linear ts

-- whether a linear tree holds a name
abbrev pub name_where_linear : Tree → Option Bool
name_where_linear t = if is_linear t then Some (has_name t) else None

-- whether its root holds a name, where it may be that of a linear tree
abbrev pub root_name : Tree → Option Bool
root_name (num q) = Some false
root_name (symbol x) = Some true
root_name (add ts) = Some false
root_name (mult ts) = Some false
root_name (neg a) = Some false
root_name (sub a b) = Some false
root_name (div a c) = if is_divisor c then Some false else None
root_name _ = None

-- whether children so far or the next one hold a name; not both may in a product
abbrev pub joined_name : Kind → Bool → Bool → Option Bool
joined_name kind.Mult b c = if b && c then None else Some (b || c)
joined_name k b c = Some (b || c)
