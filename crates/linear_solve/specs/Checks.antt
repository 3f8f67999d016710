-- How many checks of the breakers a calculation makes: all of its own, or those up to an operation that does not fit.
use Rattle.std.specs.{Prelude.{ℕ, zero, suc, ◌+◌, List, [], ◌∷◌, length, Result, Ok, Err}, List.{enumerate_from}}
use Rattle.calc_terms.specs.Trees.{Tree, num, symbol, undef, add, mult, power, root, neg, sub, div, Trees, none, more}
use Rattle.linear_solve.specs.{Fitting.{Misfit}, Sides.{Names, row_of, rows_of}, Equations.{Equation}, Elimination.{Rows, equation_row, equation_rows, settled_up_to}}

-- the checks behind a calculation, which are made where it answers
abbrev pub checks_behind : {A : Type 0} → Result A Misfit → (A → ℕ) → ℕ
checks_behind (Ok x) behind = behind x
checks_behind (Err m) behind = 0

-- those of a calculation for each of a list, from the first to the last
abbrev pub checks_of_each : {A B : Type 0} → (A → Result B Misfit) → (A → ℕ) → List A → ℕ
checks_of_each f checks [] = 0
checks_of_each f checks (x ∷ xs) = checks x + checks_behind (f x) (λ y. checks_of_each f checks xs)

-- one for each node of a tree, children before their parent and from left to right, up to the one whose row does not fit
abbrev mutual
  pub row_checks : Names → Tree → ℕ
  row_checks xs (num q) = 1
  row_checks xs (symbol x) = 1
  row_checks xs undef = 1
  row_checks xs (add ts) = rows_checks xs ts + checks_behind (rows_of xs ts) (λ rs. 1)
  row_checks xs (mult ts) = rows_checks xs ts + checks_behind (rows_of xs ts) (λ rs. 1)
  row_checks xs (power b e) = row_checks xs b + checks_behind (row_of xs b) (λ r. row_checks xs e + checks_behind (row_of xs e) (λ s. 1))
  row_checks xs (root a) = row_checks xs a + checks_behind (row_of xs a) (λ r. 1)
  row_checks xs (neg a) = row_checks xs a + checks_behind (row_of xs a) (λ r. 1)
  row_checks xs (sub a b) = row_checks xs a + checks_behind (row_of xs a) (λ r. row_checks xs b + checks_behind (row_of xs b) (λ s. 1))
  row_checks xs (div a b) = row_checks xs a + checks_behind (row_of xs a) (λ r. row_checks xs b + checks_behind (row_of xs b) (λ s. 1))

  pub rows_checks : Names → Trees → ℕ
  rows_checks xs none = 0
  rows_checks xs (more t ts) = row_checks xs t + checks_behind (row_of xs t) (λ r. rows_checks xs ts)

-- those of the sides of an equation, the left one first
abbrev pub side_checks : Names → Equation → ℕ
side_checks xs e = row_checks xs e.left + checks_behind (row_of xs e.left) (λ l. row_checks xs e.right)

-- those of the sides of equations, where the row of one is made before the sides of the next
abbrev pub equation_checks : Names → List Equation → ℕ
equation_checks xs es = checks_of_each (λ (p : ℕ × Equation). equation_row xs (length es) p.0 p.1) (λ (p : ℕ × Equation). side_checks xs p.1) (enumerate_from 0 es)

-- one for each of the first names, so many, before it is taken
abbrev pub name_checks : ℕ → Rows → ℕ
name_checks zero s = 0
name_checks (suc n) s = name_checks n s + checks_behind (settled_up_to n s) (λ t. 1)

-- those of the whole calculation: of the sides, and then of the names
unfoldable pub solving_checks : Names → List Equation → ℕ
solving_checks xs es = equation_checks xs es + checks_behind (equation_rows xs es) (λ rows. name_checks (length xs) (record { pivots = []; left = rows }))
