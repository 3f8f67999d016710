-- What the answers to lines mean.
use Rattle.std.specs.Prelude.{ℕ, ◌≡◌, ◌<◌, ◌^◌, List, Option, true, false, Contains}
use Rattle.calc_algebra.specs.{BadAndEasy.{HasValue, IsEasy}, Meanings.{Assignment, IsAssignment, Means}, Numbers.{value}, Reduced.{is_reduced}, Rewritings.{KeepsMeanings}, SquareClasses.{radicands}}
use Rattle.calc_algebra.specs.Surds.{Surd}
use Rattle.calc_language.specs.Faces.{face}
use Rattle.calc_terms.specs.Trees.{Tree, is_undef}
use Rattle.calc_tokens.specs.Placed.{Placed}
use Rattle.name_table.specs.Filling.{fills, values}
use Rattle.reduce_port.specs.EasyTrees.{Evaluates}
use Rattle.calc_session.specs.{Evaluations.{made}, Reading.{ReadsTree}, States.{State, free_bytes, trees}}

-- it means nothing under any assignment
abbrev pub MeansNothing : Tree → Type 0
MeansNothing t = (f : Assignment) → IsAssignment f → (v : Surd) → ¬ (Means t f v)

-- in a state the line reads as a tree that becomes this one, once the stored trees are in the places of their names
pub record Becomes (old : State) (line : List ℕ) (t : Tree) : Type 0 where
  pub tokens : List Placed
  pub store : Option (List ℕ)
  pub tree : Tree
  pub reads : ReadsTree old.table line tokens store tree
  pub left : ℕ
  pub is_made : made (free_bytes old) (values old.table (trees old)) tree ≡ fills left t

-- What is shown is the face of a reduced tree: under every assignment each meaning of the line is a meaning of both. Where it is known whether the line has a value, the reduced tree is that value.
pub record ShowsMeaning (old : State) (line : List ℕ) (shown : Tree) : Type 0 where
  pub tree : Tree
  pub becomes : Becomes old line tree
  pub answer : Tree
  pub reduced : is_reduced answer ≡ true
  pub meanings : KeepsMeanings tree answer
  pub defined : is_undef answer ≡ false
  pub easy : IsEasy tree → Evaluates tree answer
  pub shown_is : shown ≡ face answer
  pub shown_meanings : KeepsMeanings tree shown

-- the line becomes a tree that means nothing
pub record HasNoMeaning (old : State) (line : List ℕ) : Type 0 where
  pub tree : Tree
  pub becomes : Becomes old line tree
  pub none : MeansNothing tree

-- two trees without symbols have a value in common
abbrev pub MeanTheSame : Tree → Tree → Type 0
MeanTheSame t u = (v : Surd) × HasValue t v × HasValue u v

-- each radicand of a Number is below 10^12
abbrev pub HasSmallRadicands : Tree → Type 0
HasSmallRadicands t = (r : ℕ) → Contains (radicands (value t)) r → r < 10 ^ 12
