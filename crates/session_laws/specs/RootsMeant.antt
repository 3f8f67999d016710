-- What the answers to lines that ask for roots mean.
use Rattle.std.specs.{Prelude.{ℕ, ◌≡◌, ◌↔◌, List, [], ◌∷◌, ◌++◌, Contains, codes, true}, List.{AllZip}}
use Rattle.calc_algebra.specs.{Meanings.{Assignment, Gives, IsAssignment, Means}, SquareClasses.{Same}, Surds.{Surd}}
use Rattle.calc_commands.specs.{Commands.{IsCommandLine, roots}, Equations.{Sides, Splits, all_placed}}
use Rattle.calc_terms.specs.{Fractions.{Fraction}, Trees.{sub}}
use Rattle.equation_roots.specs.Factorings.{Rest}
use Rattle.expansions.specs.PolynomialTrees.{is_polynomial, polynomial_of}
use Rattle.linear_solve.specs.Equations.{Equation}
use Rattle.name_table.specs.Filling.{values}
use Rattle.calc_session.specs.{Arguments.{bytes_before}, Rooting.{HoldsOnly, IsFactoredIn}, RootTexts.{root_trees, roots_text}, Solving.{Become, ReadsEquation}, States.{State, free_bytes, trees}}

-- under f the sides mean the same, if they mean something
abbrev pub AreTheSame : Assignment → Equation → Type 0
AreTheSame f e = (u w : Surd) → Means e.left f u → Means e.right f w → Same u w

-- What is told of two sides: that each value of x solves them; or their roots, by a factoring of their difference, and the fractions among these are exactly those that solve them.
pub data TellsRoots (x : List ℕ) (e : Equation) : List ℕ → Type 0 where
  each_value : ((f : Assignment) → IsAssignment f → AreTheSame f e) → TellsRoots x e (x ++ codes " free")
  these_values : {qs : List Fraction} {rest : Rest} → IsFactoredIn x (polynomial_of (sub e.left e.right)) qs rest
      → ((f : Assignment) (q : Fraction) (u w : Surd) → IsAssignment f → Gives f x q → Means e.left f u → Means e.right f w → Same u w ↔ Contains qs q)
      → TellsRoots x e (roots_text x (root_trees qs rest))

-- in a state the line asks for the roots of an equation in x, and this is told of the sides that it becomes
pub record TellsRootsOf (old : State) (line x told : List ℕ) : Type 0 where
  pub text : List ℕ
  pub asks : IsCommandLine line (roots x text)
  pub written : List Sides
  pub splits : Splits text written
  pub read : Equation
  pub reads : AllZip ReadsEquation (all_placed (bytes_before line text) written) (read ∷ [])
  pub sides : Equation
  pub left : ℕ
  pub become : Become (values old.table (trees old)) (free_bytes old) (read ∷ []) left (sides ∷ [])
  pub only : HoldsOnly x (sub sides.left sides.right)
  pub polynomial : is_polynomial (sub sides.left sides.right) ≡ true
  pub tells : TellsRoots x sides told
