-- What the answers to lines that ask for an expansion mean.
use Rattle.std.specs.Prelude.{ℕ, ◌≡◌, List, true}
use Rattle.calc_algebra.specs.Rewritings.{KeepsMeanings}
use Rattle.calc_commands.specs.Commands.{IsCommandLine, expand}
use Rattle.calc_language.specs.Faces.{face}
use Rattle.calc_terms.specs.Trees.{Tree}
use Rattle.expansions.specs.{ExpandedTrees.{expanded}, Polynomials.{Monomial, coefficient_at}, PolynomialTrees.{is_polynomial, polynomial_of}}
use Rattle.calc_session.specs.{Calculating.{ExpressionBecomes}, Expanding.{expansion_text}, States.{State}}

-- in a state the line asks for the expansion of a text that becomes this tree
pub record AsksExpansionOf (old : State) (line : List ℕ) (t : Tree) : Type 0 where
  pub text : List ℕ
  pub asks : IsCommandLine line (expand text)
  pub becomes : ExpressionBecomes old text t

-- What the line becomes is a polynomial, and the text of the face of its expanded tree is told: under every assignment each meaning of the polynomial is a meaning of both.
pub record TellsExpansion (old : State) (line told : List ℕ) : Type 0 where
  pub tree : Tree
  pub becomes : AsksExpansionOf old line tree
  pub polynomial : is_polynomial tree ≡ true
  pub told_is : told ≡ expansion_text tree
  pub meanings : KeepsMeanings tree (expanded (polynomial_of tree))
  pub shown_meanings : KeepsMeanings tree (face (expanded (polynomial_of tree)))

-- the polynomials of two trees have the same coefficients
abbrev pub HaveSameCoefficients : Tree → Tree → Type 0
HaveSameCoefficients t u = (m : Monomial) → coefficient_at m (polynomial_of t) ≡ coefficient_at m (polynomial_of u)
