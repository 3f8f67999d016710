-- The row of a side: one entry for each name, and then a constant.
use Rattle.std.specs.{Prelude.{ℕ, List, [], ◌∷◌, ◌++◌, map, length, Bool, true, false, ◌||◌, if◌then◌else◌, Result, Ok}, Str.{bytes_eq}}
use Rattle.calc_terms.specs.declared.kind.Kind.{Kind}
use Rattle.calc_terms.specs.declared.kind.Kind.TheVariants as kind
use Rattle.calc_terms.specs.{Fractions.{Fraction, inverse, zero_fraction, one_fraction}, Trees.{Tree, num, symbol, undef, add, mult, power, root, neg, sub, div, Trees, none, more, root_kind}}
use Rattle.linear_solve.specs.{Fitting.{Misfit, and_then}, Rows.{Row, entry, added, negated, scaled}}

-- the row of a tree, and whether the tree holds a name
pub record Side : Type 0 where
  pub named : Bool
  pub entries : Row

abbrev pub Names : Type 0
Names = List (List ℕ)

-- the row of a rational: 0 for each name
abbrev pub constant_row : Names → Fraction → Side
constant_row xs q = record { named = false; entries = map (λ x. zero_fraction) xs ++ q ∷ [] }

-- the row of a name: 1 for that name
abbrev pub name_row : Names → List ℕ → Side
name_row xs x = record { named = true; entries = map (λ y. if bytes_eq y x then one_fraction else zero_fraction) xs ++ zero_fraction ∷ [] }

-- the constant of a row, which stands behind so many names
abbrev pub constant_of : ℕ → Side → Fraction
constant_of names r = entry names r.entries

-- these entries, for a node over the trees of two rows
abbrev pub over_both : Side → Side → Row → Side
over_both r s entries = record { named = r.named || s.named; entries = entries }

abbrev pub sum_row : Side → Side → Result Side Misfit
sum_row r s = and_then (added r.entries s.entries) (λ t. Ok (over_both r s t))

abbrev pub difference_row : Side → Side → Result Side Misfit
difference_row r s = and_then (added r.entries (negated s.entries)) (λ t. Ok (over_both r s t))

-- the one that holds a name times the constant of the other; the left one, where neither does
abbrev pub product_row : ℕ → Side → Side → Result Side Misfit
product_row names r s = and_then (if s.named then scaled (constant_of names r) s.entries else scaled (constant_of names s) r.entries) (λ t. Ok (over_both r s t))

abbrev pub quotient_row : ℕ → Side → Side → Result Side Misfit
quotient_row names r s = and_then (scaled (inverse (constant_of names s)) r.entries) (λ t. Ok (over_both r s t))

-- ---- the row of a node over the rows of its children

-- the row of a node without children: 1 for a product, and 0 for a sum
abbrev pub bare_row : Names → Tree → Side
bare_row xs (num q) = constant_row xs q
bare_row xs (symbol x) = name_row xs x
bare_row xs (mult ts) = constant_row xs one_fraction
bare_row xs _ = constant_row xs zero_fraction

-- how the row of the next child of a node of a kind is joined to the row so far
abbrev pub joined_row : ℕ → Kind → Side → Side → Result Side Misfit
joined_row names kind.Mult r s = product_row names r s
joined_row names kind.Sub r s = difference_row r s
joined_row names kind.Div r s = quotient_row names r s
joined_row names k r s = sum_row r s

-- rows joined to a first one, from left to right
abbrev pub joined_rows : (Side → Side → Result Side Misfit) → Side → List Side → Result Side Misfit
joined_rows join r [] = Ok r
joined_rows join r (s ∷ rs) = and_then (join r s) (λ t. joined_rows join t rs)

-- rows joined from left to right, where there are any
abbrev pub joined_from : (Side → Side → Result Side Misfit) → Side → List Side → Result Side Misfit
joined_from join bare [] = Ok bare
joined_from join bare (r ∷ rs) = joined_rows join r rs

-- an opposite negates
abbrev pub signed_row : Kind → Side → Side
signed_row kind.Neg r = record r { entries = negated r.entries }
signed_row k r = r

abbrev pub own_row : Names → Tree → List Side → Result Side Misfit
own_row xs t rs = and_then (joined_from (joined_row (length xs) (root_kind t)) (bare_row xs t) rs) (λ r. Ok (signed_row (root_kind t) r))

-- ---- the rows of trees, in postfix order

abbrev mutual
  pub row_of : Names → Tree → Result Side Misfit
  row_of xs (num q) = own_row xs (num q) []
  row_of xs (symbol x) = own_row xs (symbol x) []
  row_of xs undef = own_row xs undef []
  row_of xs (add ts) = and_then (rows_of xs ts) (λ rs. own_row xs (add ts) rs)
  row_of xs (mult ts) = and_then (rows_of xs ts) (λ rs. own_row xs (mult ts) rs)
  row_of xs (power b e) = and_then (row_of xs b) (λ r. and_then (row_of xs e) (λ s. own_row xs (power b e) (r ∷ s ∷ [])))
  row_of xs (root a) = and_then (row_of xs a) (λ r. own_row xs (root a) (r ∷ []))
  row_of xs (neg a) = and_then (row_of xs a) (λ r. own_row xs (neg a) (r ∷ []))
  row_of xs (sub a b) = and_then (row_of xs a) (λ r. and_then (row_of xs b) (λ s. own_row xs (sub a b) (r ∷ s ∷ [])))
  row_of xs (div a b) = and_then (row_of xs a) (λ r. and_then (row_of xs b) (λ s. own_row xs (div a b) (r ∷ s ∷ [])))

  pub rows_of : Names → Trees → Result (List Side) Misfit
  rows_of xs none = Ok []
  rows_of xs (more t ts) = and_then (row_of xs t) (λ r. and_then (rows_of xs ts) (λ rs. Ok (r ∷ rs)))
