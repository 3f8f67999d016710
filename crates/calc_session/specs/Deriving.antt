-- What the derivative of a tree comes to.
use Rattle.std.specs.Prelude.{ℕ, ◌≡◌, ◌≤◌, ◌<◌, List, Option, None}
use Rattle.breakers.specs.State.{State as Breaker}
use Rattle.calc_terms.specs.Trees.{Tree, size}
use Rattle.dual_diff.specs.{Derivatives.{HasDerivative, derivative}, Placing.{capped}}
use Rattle.node_pool.specs.declared.full.Full.{Full}
use Rattle.calc_session.specs.{Evaluations.{IsReduction}, Replies.{Reply, refused, full, no_derivative, reported}}

-- the derivative of a tree has more bytes than are left, which is refused so
pub record LacksDerivative (x : List ℕ) (left : ℕ) (t : Tree) (refusal : Full) : Type 0 where
  pub derivable : HasDerivative x t
  pub short : left < size (derivative x t)
  pub refusal_is : refusal ≡ record { needed = capped (size (derivative x t)); free = left }

-- The replies to a tree whose derivative is asked for, where so many bytes are free without it, and these are left with it. The derivative is made beside the tree, and is reduced once the tree is released.
pub data IsReplyToDerivative (room bits : Option (Tree → ℕ)) (free : ℕ) (before after : List Breaker) (x : List ℕ) (left : ℕ) (t : Tree) : Reply → Type 0 where
  has_none : ¬ (HasDerivative x t) → after ≡ before → IsReplyToDerivative room bits free before after x left t (refused no_derivative)
  lacks_bytes : {refusal : Full} → LacksDerivative x left t refusal → after ≡ before → IsReplyToDerivative room bits free before after x left t (refused (full refusal))
  is_reduced : {reply : Reply} → HasDerivative x t → size (derivative x t) ≤ left → IsReduction room bits free (derivative x t) before after None reply → IsReplyToDerivative room bits free before after x left t (reported reply)
