-- The replies to a text that is calculated with, by what it becomes.
use Rattle.session_laws.proofs.Shared.{arith, ◌≡◌, ℕ, List, sym, subst, Tree, Filling, fills, ExpressionBecomes, IsReplyToExpression, is_no_expression, is_read, made_in, IsReplyToMade, is_made, Reply}
use Rattle.session_laws.proofs.Shared.{report, State, one_text, read_at_all}
use Rattle.breakers.specs.State.{State as Breaker}

-- the text becomes a tree, and the reply is one to that
pub record RepliesToText (old : State) (text : List ℕ) (Is : ℕ → Tree → Reply → Type 0) (reply : Reply) : Type 0 where
  pub tree : Tree
  pub becomes : ExpressionBecomes old text tree
  pub reply_is : Is becomes.left tree reply

made_tree : {before after : List Breaker} {Is : ℕ → Tree → Reply → Type 0} {making : Filling} {left : ℕ} {t : Tree} → making ≡ fills left t → (reply : Reply) → IsReplyToMade making before after Is reply → Is left t reply
made_tree h reply k = grind arith

module _ {old : State} {before after : List Breaker} {place : ℕ} {text : List ℕ} {Is : ℕ → Tree → Reply → Type 0} where
  -- a report
  pub reply_to_text : {told : List ℕ} → IsReplyToExpression old before after place text Is (report told) → RepliesToText old text Is (report told)
  reply_to_text (is_read {tokens = tokens} {t = t} reads (is_made {left = left} {t = u} m h)) = record { tree = u; becomes = record { tokens = tokens; tree = t; reads = reads; left = left; is_made = m }; reply_is = h }

  -- where it is known what the text becomes
  pub reply_to_tree : {t : Tree} (b : ExpressionBecomes old text t) (reply : Reply) → IsReplyToExpression old before after place text Is reply → Is b.left t reply
  reply_to_tree b reply (is_no_expression h same) = absurd (read_at_all text b.reads h)
  reply_to_tree b reply (is_read r h) = made_tree b.is_made reply (subst (λ u. IsReplyToMade (made_in old u) before after Is reply) (sym (one_text text b.reads r).trees) h)
