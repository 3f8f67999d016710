-- What the texts of solutions say.
use Rattle.std.specs.{Prelude.{ℕ, ◌≡◌, ◌≤◌, ◌↔◌, List, length, ⊤}, List.{AllZip}}
use Rattle.calc_algebra.specs.{Meanings.{Assignment, Gives, IsAssignment, Means}, Surds.{surd_of}}
use Rattle.calc_commands.specs.{Commands.{IsCommandLine, solve}, Equations.{Sides, Splits, all_placed}}
use Rattle.calc_language.specs.Faces.{face}
use Rattle.calc_terms.specs.Fractions.{Fraction}
use Rattle.linear_solve.specs.{Equations.{Assigns, Equation, SolvesAll}, Forms.{ComeToOne, Form, free, bound, HoldLaterFreeNames}, RisingNames.{AreNamesOf}}
use Rattle.name_table.specs.Filling.{values}
use Rattle.calc_session.specs.{Arguments.{bytes_before}, SolutionTexts.{form_tree, lines_text, multipliers_text}, Solving.{Become, ReadsEquation}, States.{State, free_bytes, trees}}

-- In a state the line asks for the solutions of at most six equations, which become these once the stored trees are in the places of their names: all their sides find room.
pub record AsksToSolve (old : State) (line : List ℕ) (es : List Equation) : Type 0 where
  pub text : List ℕ
  pub asks : IsCommandLine line (solve text)
  pub written : List Sides
  pub splits : Splits text written
  pub few : length written ≤ 6
  pub read : List Equation
  pub reads : AllZip ReadsEquation (all_placed (bytes_before line text) written) read
  pub left : ℕ
  pub become : Become (values old.table (trees old)) (free_bytes old) read left es

-- under f a name that is free has any value, and a bound one that of the tree that is printed for it
abbrev pub HasPrintedValue : Assignment → List (List ℕ) → List ℕ → Form → Type 0
HasPrintedValue f xs x free = ⊤
HasPrintedValue f xs x (bound q qs) = (v : Fraction) × Gives f x v × Means (face (form_tree xs q qs)) f (surd_of v)

abbrev pub HavePrintedValues : Assignment → List (List ℕ) → List Form → Type 0
HavePrintedValues f xs forms = AllZip (HasPrintedValue f xs) xs forms

-- A text tells the solutions of equations: an assignment solves them exactly where each bound name has the value of its printed form, in which only free names that come later stand; or the printed rationals bring left minus right to 1, so that none does.
pub data TellsSolutions (es : List Equation) : List ℕ → Type 0 where
  tells_forms : {xs : List (List ℕ)} (forms : List Form) → AreNamesOf es xs → length forms ≡ length xs → HoldLaterFreeNames forms
      → ((f : Assignment) (vs : List Fraction) → IsAssignment f → Assigns f xs vs → SolvesAll f es ↔ HavePrintedValues f xs forms) → TellsSolutions es (lines_text xs forms)
  tells_none : {xs : List (List ℕ)} (cs : List Fraction) → AreNamesOf es xs → length cs ≡ length es → ComeToOne cs xs es
      → ((f : Assignment) (vs : List Fraction) → IsAssignment f → Assigns f xs vs → ¬ (SolvesAll f es)) → TellsSolutions es (multipliers_text cs)

-- one of these is told of the equations that the line asks for
pub record TellsSolutionsOf (old : State) (line told : List ℕ) : Type 0 where
  pub equations : List Equation
  pub asked : AsksToSolve old line equations
  pub tells : TellsSolutions equations told
