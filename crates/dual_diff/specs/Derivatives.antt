-- The derivative of a tree with respect to a name, as a tree.
use Rattle.std.specs.{Prelude.{ℕ, zero, suc, ◌+◌, ◌≡◌, ◌≤◌, ℤ, pos, ◌-ℤ◌, nat_abs, List, Bool, true, false, ◌||◌, if◌then◌else◌, Option, Some, None, ⊤}, Str.{bytes_eq}}
use Rattle.calc_terms.specs.declared.kind.Kind.{Kind}
use Rattle.calc_terms.specs.declared.kind.Kind.TheVariants as kind
use Rattle.calc_terms.specs.{Fractions.{whole_fraction}, Trees.{Tree, num, symbol, undef, add, mult, power, root, neg, sub, div, Trees, none, more, append, whole_num, AllParts}}
use Rattle.calc_measures.specs.Literals.{whole_literal}
use Rattle.tree_handles.specs.Expressions.{nth}
use Rattle.dual_diff.specs.{Lists.{behind, first}, Occurring.{occurs, occurs_in}}

abbrev pub two : Tree → Tree → Trees
two a b = more a (more b none)

-- a tree without the name has the derivative 0
abbrev pub where_occurs : Bool → Tree → Tree
where_occurs true d = d
where_occurs false d = whole_num 0

-- (a/b)' = (a'b - ab')/b²
abbrev pub quotient_rule : Tree → Tree → Tree → Tree → Tree
quotient_rule a a' b b' = div (sub (mult (two a' b)) (mult (two a b'))) (power b (whole_num 2))

-- n times b to the power n - 1 times b'
abbrev pub lowered : ℤ → Tree → Tree → Tree
lowered n b b' = mult (more (num (whole_fraction n)) (two (power b (num (whole_fraction (n -ℤ pos 1)))) b'))

-- (b^n)' = n b^(n-1) b'
abbrev pub power_rule : ℤ → Tree → Tree → Tree
power_rule (pos zero) b b' = whole_num 0
power_rule (pos (suc zero)) b b' = b'
power_rule n b b' = lowered n b b'

-- the same, where the exponent is a whole literal
abbrev pub literal_power_rule : Option ℤ → Tree → Tree → Tree
literal_power_rule (Some n) b b' = power_rule n b b'
literal_power_rule None b b' = undef

-- (√a)' = a'/(2√a)
abbrev pub root_rule : Tree → Tree → Tree
root_rule a a' = div a' (mult (two (whole_num 2) (root a)))

-- one product is itself
abbrev pub sum_of_products : Trees → Tree
sum_of_products none = whole_num 0
sum_of_products (more t none) = t
sum_of_products (more t (more u ts)) = add (more t (more u ts))

abbrev mutual
  pub derivative : List ℕ → Tree → Tree
  derivative x (num q) = whole_num 0
  derivative x (symbol y) = if bytes_eq y x then whole_num 1 else whole_num 0
  derivative x undef = whole_num 0
  derivative x (add ts) = where_occurs (occurs_in x ts) (add (derivatives x ts))
  derivative x (mult ts) = sum_of_products (products x none ts)
  derivative x (power b e) = where_occurs (occurs x b || occurs x e) (literal_power_rule (whole_literal e) b (derivative x b))
  derivative x (root a) = where_occurs (occurs x a) (root_rule a (derivative x a))
  derivative x (neg a) = where_occurs (occurs x a) (neg (derivative x a))
  derivative x (sub a b) = where_occurs (occurs x a || occurs x b) (sub (derivative x a) (derivative x b))
  derivative x (div a b) = if occurs x b then quotient_rule a (derivative x a) b (derivative x b) else where_occurs (occurs x a) (div (derivative x a) b)

  pub derivatives : List ℕ → Trees → Trees
  derivatives x none = none
  derivatives x (more t ts) = more (derivative x t) (derivatives x ts)

  -- for each of the later factors that holds the name, the product of all factors with its derivative in its place
  pub products : List ℕ → Trees → Trees → Trees
  products x earlier none = none
  products x earlier (more t ts) = if occurs x t then more (mult (append earlier (more (derivative x t) ts))) (products x (append earlier (more t none)) ts) else products x (append earlier (more t none)) ts

-- the product of factors with the derivative of the one at a place in its place, which is counted from 0
abbrev pub with_derivative : List ℕ → ℕ → Trees → Tree
with_derivative x n ts = mult (append (first n ts) (more (derivative x (nth n ts)) (behind (n + 1) ts)))

-- a node whose derivative is the same node over the derivatives of its children
abbrev pub is_linear : Kind → Bool
is_linear kind.Add = true
is_linear kind.Neg = true
is_linear kind.Sub = true
is_linear k = false

-- the numerator of the derivative of a/b
abbrev pub numerator : List ℕ → Tree → Tree → Tree
numerator x a b = sub (mult (two (derivative x a) b)) (mult (two a (derivative x b)))

-- ---- which trees have one

-- the largest magnitude of an exponent
abbrev pub exponent_limit : ℕ
exponent_limit = 1000000

pub record IsDerivableExponent (e : Tree) : Type 0 where
  pub number : ℤ
  pub literal : whole_literal e ≡ Some number
  pub small : nat_abs number ≤ exponent_limit

-- the root's own node; only a power that holds the name may have no derivative
abbrev pub IsDerivable : List ℕ → Tree → Type 0
IsDerivable x (power b e) = occurs x (power b e) ≡ true → IsDerivableExponent e
IsDerivable x t = ⊤

abbrev pub HasDerivative : List ℕ → Tree → Type 0
HasDerivative x t = AllParts (IsDerivable x) t
