-- A bound on the bytes that an expansion takes.
use Rattle.std.specs.{Prelude.{ℕ, suc, ◌+◌, ◌*◌, ◌^◌, ◌≤◌, ⊤, max, Bool, false, ◌||◌, List, [], ◌∷◌, length, Contains, if◌then◌else◌}, Str.{bytes_eq}}
use Rattle.calc_terms.specs.Trees.{Tree, num, symbol, add, mult, power, root, neg, sub, div, Trees, none, more, names, nodes}
use Rattle.expansions.specs.{Polynomials.{Monomial, Polynomial}, PolynomialTrees.{exponent_of}}

-- ---- terms

-- how many terms the polynomial of a tree has, before any are joined; a sum of none is 0, which is one term
abbrev mutual
  pub terms : Tree → ℕ
  terms (num q) = 1
  terms (symbol x) = 1
  terms (add ts) = max 1 (sum_of_terms ts)
  terms (mult ts) = product_of_terms ts
  terms (power b e) = terms b ^ exponent_of e
  terms (neg a) = terms a
  terms (sub a b) = terms a + terms b
  terms (div a c) = terms a
  terms _ = 0

  pub sum_of_terms : Trees → ℕ
  sum_of_terms none = 0
  sum_of_terms (more t ts) = terms t + sum_of_terms ts

  pub product_of_terms : Trees → ℕ
  product_of_terms none = 1
  product_of_terms (more t ts) = terms t * product_of_terms ts

-- the largest of the tree and its parts
abbrev mutual
  pub most_terms : Tree → ℕ
  most_terms (add ts) = max (terms (add ts)) (most_terms_of ts)
  most_terms (mult ts) = max (terms (mult ts)) (most_terms_of ts)
  most_terms (power b e) = max (terms (power b e)) (max (most_terms b) (most_terms e))
  most_terms (root a) = max (terms (root a)) (most_terms a)
  most_terms (neg a) = max (terms (neg a)) (most_terms a)
  most_terms (sub a b) = max (terms (sub a b)) (max (most_terms a) (most_terms b))
  most_terms (div a b) = max (terms (div a b)) (max (most_terms a) (most_terms b))
  most_terms t = terms t

  pub most_terms_of : Trees → ℕ
  most_terms_of none = 0
  most_terms_of (more t ts) = max (most_terms t) (most_terms_of ts)

-- ---- names

abbrev pub is_among : List ℕ → List (List ℕ) → Bool
is_among x [] = false
is_among x (y ∷ ys) = bytes_eq y x || is_among x ys

-- how many distinct names there are
abbrev pub count_distinct : List (List ℕ) → ℕ
count_distinct [] = 0
count_distinct (x ∷ xs) = if is_among x xs then count_distinct xs else suc (count_distinct xs)

-- ---- room

-- the bytes within which the tree is expanded
abbrev pub expansion_room : Tree → ℕ
expansion_room t = 512 * suc (count_distinct (names t)) * most_terms t * nodes t

-- ---- polynomials with few terms

-- each name of the monomial is one of these
abbrev pub IsNamed : List (List ℕ) → Monomial → Type 0
IsNamed ns [] = ⊤
IsNamed ns (f ∷ m) = Contains ns f.name × IsNamed ns m

-- of each monomial
abbrev pub AreNamed : List (List ℕ) → Polynomial → Type 0
AreNamed ns [] = ⊤
AreNamed ns (s ∷ v) = IsNamed ns s.monomial × AreNamed ns v

-- it has at most n summands, with no other names than these
pub record HasFewTerms (ns : List (List ℕ)) (n : ℕ) (v : Polynomial) : Type 0 where
  pub named : AreNamed ns v
  pub few : length v ≤ n

-- ---- how many bytes are placed at most

abbrev pub number_bytes : ℕ
number_bytes = 40

-- a name, or its power
abbrev pub factor_bytes : ℕ
factor_bytes = 64

-- a term of n factors
abbrev pub term_bytes : ℕ → ℕ
term_bytes n = 48 + factor_bytes * n

-- n terms with these names
abbrev pub terms_bytes : List (List ℕ) → ℕ → ℕ
terms_bytes ns n = 64 * suc (count_distinct ns) * n

-- a sum of them
abbrev pub sum_bytes : List (List ℕ) → ℕ → ℕ
sum_bytes ns n = 8 + terms_bytes ns n

-- what is placed for a node whose polynomial has n terms
abbrev pub node_bytes : List (List ℕ) → ℕ → ℕ
node_bytes ns n = 96 + 2 * terms_bytes ns n
