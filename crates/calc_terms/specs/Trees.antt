-- The tree of an expression: its measures, its names and its parts.
use Rattle.std.specs.Prelude.{ℕ, suc, ◌+◌, max, pos, List, [], ◌∷◌, ◌++◌, Bool, true, false, ◌&&◌, ◌||◌, ⊤}
use Rattle.calc_terms.specs.declared.kind.Kind.{Kind}
use Rattle.calc_terms.specs.declared.kind.Kind.TheVariants as kind
use Rattle.calc_terms.specs.{Kind.{code_of, size_by_form}, Fractions.{Fraction, lowest}, Short.{is_short}}

-- a rational, a symbol by the bytes of its name, `undef`, or a node over its children
mutual
  pub data Tree : Type 0 where
    num : Fraction → Tree
    symbol : List ℕ → Tree
    undef : Tree
    add : Trees → Tree
    mult : Trees → Tree
    power : Tree → Tree → Tree
    root : Tree → Tree
    neg : Tree → Tree
    sub : Tree → Tree → Tree
    div : Tree → Tree → Tree

  pub data Trees : Type 0 where
    none : Trees
    more : Tree → Trees → Trees

-- ---- lists of trees

abbrev pub append : Trees → Trees → Trees
append none us = us
append (more t ts) us = more t (append ts us)

abbrev pub count : Trees → ℕ
count none = 0
count (more t ts) = suc (count ts)

abbrev pub has_two : Trees → Bool
has_two (more t (more u ts)) = true
has_two _ = false

-- ---- the node at the root

-- the kind of the root
abbrev pub root_kind : Tree → Kind
root_kind (num q) = kind.Num
root_kind (symbol x) = kind.Sym
root_kind undef = kind.Undef
root_kind (add ts) = kind.Add
root_kind (mult ts) = kind.Mult
root_kind (power b e) = kind.Pow
root_kind (root a) = kind.Root
root_kind (neg a) = kind.Neg
root_kind (sub a b) = kind.Sub
root_kind (div a b) = kind.Div

-- the code of that kind
abbrev pub root_code : Tree → ℕ
root_code t = code_of (root_kind t)

-- the root's own node has the short form
abbrev pub has_short_root : Tree → Bool
has_short_root (num q) = is_short q
has_short_root _ = false

-- the bytes of the root's own node
abbrev pub root_size : Tree → ℕ
root_size t = size_by_form (root_kind t) (has_short_root t)

abbrev pub is_num : Tree → Bool
is_num (num q) = true
is_num _ = false

abbrev pub is_symbol : Tree → Bool
is_symbol (symbol x) = true
is_symbol _ = false

abbrev pub is_undef : Tree → Bool
is_undef undef = true
is_undef _ = false

abbrev pub is_add : Tree → Bool
is_add (add ts) = true
is_add _ = false

abbrev pub is_mult : Tree → Bool
is_mult (mult ts) = true
is_mult _ = false

abbrev pub is_root : Tree → Bool
is_root (root a) = true
is_root _ = false

abbrev pub is_sub : Tree → Bool
is_sub (sub a b) = true
is_sub _ = false

abbrev pub is_div : Tree → Bool
is_div (div a b) = true
is_div _ = false

-- the whole number n
abbrev pub whole_num : ℕ → Tree
whole_num n = num (lowest (pos n) 1)

-- ---- the children of a node

-- some child is Undef
abbrev pub has_undef : Trees → Bool
has_undef none = false
has_undef (more t ts) = is_undef t || has_undef ts

-- each child is a rational
abbrev pub are_rationals : Trees → Bool
are_rationals none = true
are_rationals (more t ts) = is_num t && are_rationals ts

-- the parts of each child in its place
abbrev pub opened_into : (Tree → Trees) → Trees → Trees
opened_into parts none = none
opened_into parts (more t ts) = append (parts t) (opened_into parts ts)

-- ---- measures

-- the bytes of all its nodes
abbrev mutual
  pub size : Tree → ℕ
  size (num q) = root_size (num q)
  size (symbol x) = root_size (symbol x)
  size undef = root_size undef
  size (add ts) = root_size (add ts) + sizes ts
  size (mult ts) = root_size (mult ts) + sizes ts
  size (power b e) = root_size (power b e) + (size b + size e)
  size (root a) = root_size (root a) + size a
  size (neg a) = root_size (neg a) + size a
  size (sub a b) = root_size (sub a b) + (size a + size b)
  size (div a b) = root_size (div a b) + (size a + size b)

  pub sizes : Trees → ℕ
  sizes none = 0
  sizes (more t ts) = size t + sizes ts

-- 1 for a leaf, and one more than the deepest child's for another tree
abbrev mutual
  pub depth : Tree → ℕ
  depth (num q) = 1
  depth (symbol x) = 1
  depth undef = 1
  depth (add ts) = suc (depths ts)
  depth (mult ts) = suc (depths ts)
  depth (power b e) = suc (max (depth b) (depth e))
  depth (root a) = suc (depth a)
  depth (neg a) = suc (depth a)
  depth (sub a b) = suc (max (depth a) (depth b))
  depth (div a b) = suc (max (depth a) (depth b))

  pub depths : Trees → ℕ
  depths none = 0
  depths (more t ts) = max (depth t) (depths ts)

-- how many parts it has
abbrev mutual
  pub nodes : Tree → ℕ
  nodes (num q) = 1
  nodes (symbol x) = 1
  nodes undef = 1
  nodes (add ts) = suc (nodes_of ts)
  nodes (mult ts) = suc (nodes_of ts)
  nodes (power b e) = suc (nodes b + nodes e)
  nodes (root a) = suc (nodes a)
  nodes (neg a) = suc (nodes a)
  nodes (sub a b) = suc (nodes a + nodes b)
  nodes (div a b) = suc (nodes a + nodes b)

  pub nodes_of : Trees → ℕ
  nodes_of none = 0
  nodes_of (more t ts) = nodes t + nodes_of ts

-- the names in it, from left to right
abbrev mutual
  pub names : Tree → List (List ℕ)
  names (num q) = []
  names (symbol x) = x ∷ []
  names undef = []
  names (add ts) = names_of ts
  names (mult ts) = names_of ts
  names (power b e) = names b ++ names e
  names (root a) = names a
  names (neg a) = names a
  names (sub a b) = names a ++ names b
  names (div a b) = names a ++ names b

  pub names_of : Trees → List (List ℕ)
  names_of none = []
  names_of (more t ts) = names t ++ names_of ts

-- ---- parts

-- a fact of the tree and of each of its parts
abbrev mutual
  pub AllParts : (Tree → Type 0) → Tree → Type 0
  AllParts P (num q) = P (num q)
  AllParts P (symbol x) = P (symbol x)
  AllParts P undef = P undef
  AllParts P (add ts) = P (add ts) × AllPartsOf P ts
  AllParts P (mult ts) = P (mult ts) × AllPartsOf P ts
  AllParts P (power b e) = P (power b e) × AllParts P b × AllParts P e
  AllParts P (root a) = P (root a) × AllParts P a
  AllParts P (neg a) = P (neg a) × AllParts P a
  AllParts P (sub a b) = P (sub a b) × AllParts P a × AllParts P b
  AllParts P (div a b) = P (div a b) × AllParts P a × AllParts P b

  pub AllPartsOf : (Tree → Type 0) → Trees → Type 0
  AllPartsOf P none = ⊤
  AllPartsOf P (more t ts) = AllParts P t × AllPartsOf P ts

-- p is the tree itself or a part of a child
mutual
  pub data IsPart (p : Tree) : Tree → Type 0 where
    itself : IsPart p p
    in_add : {ts : Trees} → IsPartOf p ts → IsPart p (add ts)
    in_mult : {ts : Trees} → IsPartOf p ts → IsPart p (mult ts)
    in_base : {b e : Tree} → IsPart p b → IsPart p (power b e)
    in_exponent : {b e : Tree} → IsPart p e → IsPart p (power b e)
    in_root : {a : Tree} → IsPart p a → IsPart p (root a)
    in_neg : {a : Tree} → IsPart p a → IsPart p (neg a)
    in_left : {a b : Tree} → IsPart p a → IsPart p (sub a b)
    in_right : {a b : Tree} → IsPart p b → IsPart p (sub a b)
    in_dividend : {a b : Tree} → IsPart p a → IsPart p (div a b)
    in_divisor : {a b : Tree} → IsPart p b → IsPart p (div a b)

  pub data IsPartOf (p : Tree) : Trees → Type 0 where
    first : {t : Tree} {ts : Trees} → IsPart p t → IsPartOf p (more t ts)
    later : {t : Tree} {ts : Trees} → IsPartOf p ts → IsPartOf p (more t ts)

-- two children or more
abbrev pub HasTwo : Trees → Type 0
HasTwo (more t (more u ts)) = ⊤
HasTwo _ = ⊥

-- each sum and each product in it has two children or more
abbrev mutual
  pub IsComplete : Tree → Type 0
  IsComplete (add ts) = AreComplete ts × HasTwo ts
  IsComplete (mult ts) = AreComplete ts × HasTwo ts
  IsComplete (power b e) = IsComplete b × IsComplete e
  IsComplete (root a) = IsComplete a
  IsComplete (neg a) = IsComplete a
  IsComplete (sub a b) = IsComplete a × IsComplete b
  IsComplete (div a b) = IsComplete a × IsComplete b
  IsComplete _ = ⊤

  pub AreComplete : Trees → Type 0
  AreComplete none = ⊤
  AreComplete (more t ts) = IsComplete t × AreComplete ts
