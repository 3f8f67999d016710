-- What the answers to lines that ask for a derivative mean.
use Rattle.std.specs.Prelude.{ℕ, ◌≡◌, ◌⊎◌, List, codes, true, false}
use Rattle.calc_algebra.specs.{Meanings.{Assignment, IsAssignment, Means}, Reduced.{is_reduced as is_reduced_tree}}
use Rattle.calc_commands.specs.Commands.{IsCommandLine, diff}
use Rattle.calc_language.specs.{Faces.{face}, Texts.{text as text_of_tree}}
use Rattle.calc_terms.specs.Trees.{Tree, is_undef}
use Rattle.dual_diff.specs.Pairs.{Pair, HasPair}
use Rattle.calc_session.specs.{Calculating.{ExpressionBecomes}, States.{State}}

-- in a state the line asks for the derivative of a text that becomes this tree
pub record AsksDerivativeOf (old : State) (line x : List ℕ) (t : Tree) : Type 0 where
  pub text : List ℕ
  pub asks : IsCommandLine line (diff x text)
  pub becomes : ExpressionBecomes old text t

-- the text of the face of a reduced tree is told: under every assignment the slope of each pair of the tree is a meaning of both
pub record TellsSlope (x : List ℕ) (t : Tree) (told : List ℕ) : Type 0 where
  pub answer : Tree
  pub reduced : is_reduced_tree answer ≡ true
  pub defined : is_undef answer ≡ false
  pub told_is : told ≡ text_of_tree (face answer)
  pub slopes : (f : Assignment) → IsAssignment f → (p : Pair) → HasPair x t f p → Means answer f p.slope × Means (face answer) f p.slope

-- `undef` is told, and the tree has a pair under no assignment
pub record TellsNoSlope (x : List ℕ) (t : Tree) (told : List ℕ) : Type 0 where
  pub told_is : told ≡ codes "undef"
  pub none : (f : Assignment) → IsAssignment f → (p : Pair) → ¬ (HasPair x t f p)

-- one of these is told of what the line becomes
pub record TellsDerivative (old : State) (line x told : List ℕ) : Type 0 where
  pub tree : Tree
  pub becomes : AsksDerivativeOf old line x tree
  pub tells : TellsSlope x tree told ⊎ TellsNoSlope x tree told
