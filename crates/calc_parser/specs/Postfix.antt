-- Trees in postfix order: the children from left to right, then their parent.
use Rattle.std.specs.Prelude.{ℕ, ◌*◌, List, [], ◌∷◌, ◌++◌}
use Rattle.calc_terms.specs.declared.kind.Kind.{Kind}
use Rattle.calc_terms.specs.declared.kind.Kind.TheVariants as kind
use Rattle.calc_language.specs.Tokens.{Token, literal, name, undef_mark}
use Rattle.calc_tokens.specs.Limits.{line_limit}
use Rattle.calc_terms.specs.Trees.{Tree, num, symbol, undef, add, mult, power, root, neg, sub, div, Trees, none, more, count}

-- a leaf by its token, or the parent of the last trees, so many
pub data Node : Type 0 where
  leaf : Token → Node
  parent : Kind → ℕ → Node

abbrev mutual
  pub postfix : Tree → List Node
  postfix (num q) = leaf (literal q) ∷ []
  postfix (symbol x) = leaf (name x) ∷ []
  postfix undef = leaf undef_mark ∷ []
  postfix (add ts) = postfixes ts ++ parent kind.Add (count ts) ∷ []
  postfix (mult ts) = postfixes ts ++ parent kind.Mult (count ts) ∷ []
  postfix (power b e) = (postfix b ++ postfix e) ++ parent kind.Pow 2 ∷ []
  postfix (root a) = postfix a ++ parent kind.Root 1 ∷ []
  postfix (neg a) = postfix a ++ parent kind.Neg 1 ∷ []
  postfix (sub a b) = (postfix a ++ postfix b) ++ parent kind.Sub 2 ∷ []
  postfix (div a b) = (postfix a ++ postfix b) ++ parent kind.Div 2 ∷ []

  -- one tree behind the other
  pub postfixes : Trees → List Node
  postfixes none = []
  postfixes (more t ts) = postfix t ++ postfixes ts

-- the most nodes of a line's tree: two for each of its tokens
abbrev pub step_limit : ℕ
step_limit = 2 * line_limit
