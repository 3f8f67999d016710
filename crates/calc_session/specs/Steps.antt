-- One line as one step of a session.
use Rattle.std.specs.Prelude.{◌≡◌, ◌≤◌, ℕ, List, length, true, false, Option, Some, None}
use Rattle.breakers.specs.State.{State as Breaker}
use Rattle.calc_terms.specs.Trees.{Tree, none, more}
use Rattle.calc_tokens.specs.Limits.{line_limit}
use Rattle.name_table.specs.{Held.{held_by}, Storing.{IsStorable}, Tables.{with_answer, without_name}}
use Rattle.node_pool.specs.Nodes.{AreDistinct, has}
use Rattle.tree_handles.specs.{Forest.{Forest, flatten, join, root_id}, Handed.{Represents}, Inside.{holds}}
use Rattle.calc_session.specs.{Asking.{Asks, AsksInVain, Request, nothing, value, commanded}, Calculating.{made_in}, Commanding.{IsReplyToCommand}, Evaluations.{IsReduction, IsReplyToMade}}
use Rattle.calc_session.specs.{Reading.{IsUnstorable}, Replies.{Reason, Reply, blank, shown, stored, forgot, refused}, States.{State, free_bytes, trees}}

-- the replies to a tree that was read and can be stored under the name, where there is one: it is built, filled and reduced
abbrev pub IsReplyToTree : (room bits : Option (Tree → ℕ)) → State → (before after : List Breaker) → Option (List ℕ) → Tree → Reply → Type 0
IsReplyToTree room bits old before after store t reply = IsReplyToMade (made_in old t) before after (λ left u. IsReduction room bits (free_bytes old) u before after store) reply

-- the replies to a tree that was read
pub data IsReplyToValue (room bits : Option (Tree → ℕ)) (old : State) (before after : List Breaker) (store : Option (List ℕ)) (t : Tree) : Reply → Type 0 where
  cannot_be_stored : {reason : Reason} → IsUnstorable old.table store reason → after ≡ before → IsReplyToValue room bits old before after store t (refused reason)
  is_evaluated : {reply : Reply} → IsStorable store old.table → IsReplyToTree room bits old before after store t reply → IsReplyToValue room bits old before after store t reply

-- the replies to what a line asks for
abbrev pub IsReplyTo : (room bits : Option (Tree → ℕ)) → State → (before after : List Breaker) → (line : List ℕ) → Request → Reply → Type 0
IsReplyTo room bits old before after line nothing reply = (reply ≡ blank) × (after ≡ before)
IsReplyTo room bits old before after line (value store t) reply = IsReplyToValue room bits old before after store t reply
IsReplyTo room bits old before after line (commanded a) reply = IsReplyToCommand room bits old before after line a reply

-- the replies to a line in a state, by the room and bits that the reducer tells, and the breakers before and after
pub data IsReply (room bits : Option (Tree → ℕ)) (old : State) (before after : List Breaker) (line : List ℕ) : Reply → Type 0 where
  asks_in_vain : {reason : Reason} → AsksInVain line reason → after ≡ before → IsReply room bits old before after line (refused reason)
  is_replied : {request : Request} {reply : Reply} → length line ≤ line_limit → Asks line request → IsReplyTo room bits old before after line request reply → IsReply room bits old before after line reply

-- a tree of new nodes is the last answer now, and stands behind those of the old trees that the new table holds
pub record LeavesAnswer (store : Option (List ℕ)) (answer : Tree) (old new : State) : Type 0 where
  pub tree : Forest
  pub tree_is : Represents tree (more answer none)
  pub distinct : AreDistinct (flatten tree)
  pub new_nodes : (id : ℕ) → holds id tree ≡ true → has id old.nodes ≡ false
  pub size : new.size ≡ old.size
  pub table : new.table ≡ with_answer store (root_id tree) old.table
  pub nodes : new.nodes ≡ flatten (held_by new.table (join (trees old) tree))

-- the name is forgotten, and so are the trees that the new table does not hold
pub record LeavesOthers (x : List ℕ) (old new : State) : Type 0 where
  pub size : new.size ≡ old.size
  pub table : new.table ≡ without_name x old.table
  pub nodes : new.nodes ≡ flatten (held_by new.table (trees old))

-- What a reply leaves. A tree that is shown or stored is kept, a name may be forgotten, and any other reply leaves all as it was.
abbrev pub Leaves : Reply → State → State → Type 0
Leaves (shown t) old new = LeavesAnswer None t old new
Leaves (stored t x) old new = LeavesAnswer (Some x) t old new
Leaves (forgot x) old new = LeavesOthers x old new
Leaves reply old new = new ≡ old

-- From a state a line is answered by a reply and leaves a state; the breakers may be checked or armed on the way.
pub record Step (room bits : Option (Tree → ℕ)) (old : State) (before : List Breaker) (line : List ℕ) (reply : Reply) (new : State) (after : List Breaker) : Type 0 where
  pub reply_is : IsReply room bits old before after line reply
  pub state_is : Leaves reply old new
