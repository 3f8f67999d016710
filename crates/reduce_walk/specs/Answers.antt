-- What the nodes of a tree become, each over the answers of its children.
use Rattle.std.specs.Prelude.{◌≡◌, true}
use Rattle.calc_terms.specs.{Payload.{Payload}, Trees.{Tree, Trees, none, more, append, count}}
use Rattle.tree_handles.specs.Expressions.{children_of, grown, takes}

-- each of these trees
abbrev pub EachTree : (Tree → Type 0) → Trees → Type 0
EachTree P none = Unit {0}
EachTree P (more t ts) = P t × EachTree P ts

-- each tree has its answer at its place
abbrev pub AreAnswers : (Tree → Tree → Type 0) → Trees → Trees → Type 0
AreAnswers A none none = Unit {0}
AreAnswers A none (more u us) = ⊥
AreAnswers A (more t ts) none = ⊥
AreAnswers A (more t ts) (more u us) = A t u × AreAnswers A ts us

-- the node of t over the answers of its children
pub record IsOver (A : Tree → Tree → Type 0) (t now : Tree) : Type 0 where
  pub holds : Payload
  pub takes : takes holds (count (children_of t)) ≡ true
  pub whole : t ≡ grown holds (children_of t)
  pub node : now ≡ grown holds (children_of now)
  pub children : AreAnswers A (children_of t) (children_of now)

-- it is such a node of a tree that can be taken
pub record IsOverSome (P : Tree → Type 0) (A : Tree → Tree → Type 0) (now : Tree) : Type 0 where
  pub whole : Tree
  pub taken : P whole
  pub over : IsOver A whole now

-- a child of t: the children before it have answers, and others stand behind it
pub record IsNext (A : Tree → Tree → Type 0) (t : Tree) (before answers : Trees) (child : Tree) (behind : Trees) : Type 0 where
  pub split : children_of t ≡ append before (more child behind)
  pub answered : AreAnswers A before answers
