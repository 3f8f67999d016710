-- The replies to a text that is calculated with.
use Rattle.std.specs.Prelude.{ℕ, ◌≡◌, List, None}
use Rattle.breakers.specs.State.{State as Breaker}
use Rattle.calc_terms.specs.Trees.{Tree}
use Rattle.calc_tokens.specs.Placed.{Placed}
use Rattle.name_table.specs.Filling.{Filling, fills, values}
use Rattle.calc_session.specs.{Arguments.{IsNoExpression, ReadsText}, Evaluations.{IsReplyToMade, made}, Replies.{Reason, Reply, refused}, States.{State, free_bytes, trees}}

-- a tree is built in a state, and the stored trees take the places of their names
abbrev pub made_in : State → Tree → Filling
made_in s t = made (free_bytes s) (values s.table (trees s)) t

-- in a state the text is an expression that becomes this tree, once the stored trees are in the places of their names
pub record ExpressionBecomes (old : State) (text : List ℕ) (t : Tree) : Type 0 where
  pub tokens : List Placed
  pub tree : Tree
  pub reads : ReadsText text tokens None tree
  pub left : ℕ
  pub is_made : made_in old tree ≡ fills left t

-- The replies to an expression that is calculated with, where so many bytes of the line stand before it: it is read, built and filled as a line is.
pub data IsReplyToExpression (old : State) (before after : List Breaker) (place : ℕ) (text : List ℕ) (IsReplyToTree : ℕ → Tree → Reply → Type 0) : Reply → Type 0 where
  is_no_expression : {reason : Reason} → IsNoExpression place text reason → after ≡ before → IsReplyToExpression old before after place text IsReplyToTree (refused reason)
  is_read : {tokens : List Placed} {t : Tree} {reply : Reply} → ReadsText text tokens None t → IsReplyToMade (made_in old t) before after IsReplyToTree reply → IsReplyToExpression old before after place text IsReplyToTree reply
