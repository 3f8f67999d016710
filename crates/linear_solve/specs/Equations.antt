-- Equations, and which assignments solve them.
use Rattle.std.specs.{Prelude.{ℕ, ◌+◌, List, [], ◌∷◌, map, zip, sum_by, All, Contains, ⊤, ◌≡◌, true}, List.{AllZip}}
use Rattle.calc_algebra.specs.{Meanings.{Assignment, Gives, Means}, SquareClasses.{Same}, Surds.{Surd}}
use Rattle.calc_terms.specs.{Fractions.{Fraction}, Trees.{Tree, names, nodes}}
use Rattle.linear_solve.specs.Linear.{is_linear}
use Rattle.tree_handles.specs.{Expressions.{plain}, Forest.{Forest}, Inside.{tree_at}}

-- two trees that are to mean the same
pub record Equation : Type 0 where
  pub left : Tree
  pub right : Tree

-- the equation whose sides have these roots, and those of several such pairs
abbrev pub equation_at : Forest → ℕ → ℕ → Equation
equation_at f l r = record { left = plain (tree_at l f); right = plain (tree_at r f) }

abbrev pub equations_in : Forest → List ℕ → List ℕ → List Equation
equations_in f ls rs = map (λ (p : ℕ × ℕ). equation_at f p.0 p.1) (zip ls rs)

-- the nodes of all sides
abbrev pub nodes_of_sides : List Equation → ℕ
nodes_of_sides es = sum_by (λ e. nodes e.left + nodes e.right) es

-- f gives the names these values, in their order
abbrev pub Assigns : Assignment → List (List ℕ) → List Fraction → Type 0
Assigns f xs vs = AllZip (λ x v. Gives f x v) xs vs

-- the sides have meanings under f, and these are the same
pub record Solves (f : Assignment) (e : Equation) : Type 0 where
  pub left : Surd
  pub right : Surd
  pub left_means : Means e.left f left
  pub right_means : Means e.right f right
  pub same : Same left right

abbrev pub SolvesAll : Assignment → List Equation → Type 0
SolvesAll f es = All (Solves f) es

-- each name of the tree is one of these
abbrev pub HasNamesAmong : List (List ℕ) → Tree → Type 0
HasNamesAmong xs t = (x : List ℕ) → Contains (names t) x → Contains xs x

-- each name stands once
abbrev pub AreDistinct : List (List ℕ) → Type 0
AreDistinct [] = ⊤
AreDistinct (x ∷ xs) = ¬ (Contains xs x) × AreDistinct xs

-- both sides are linear, in these names
pub record IsLinearIn (xs : List (List ℕ)) (e : Equation) : Type 0 where
  pub left : is_linear e.left ≡ true
  pub right : is_linear e.right ≡ true
  pub left_names : HasNamesAmong xs e.left
  pub right_names : HasNamesAmong xs e.right
