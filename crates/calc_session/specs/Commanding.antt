-- The replies to commands, by cases on what is asked for.
use Rattle.std.specs.{Prelude.{ℕ, ◌≡◌, List, Option, true, false, Result, Ok, Err, codes}, List.{list_any}, Str.{bytes_eq}}
use Rattle.breakers.specs.{Breakers.{armed_first}, State.{State as Breaker}}
use Rattle.calc_commands.specs.{Commands.{Asked, pool, dump, draw, layout, latex, forget, after as arm, diff, solve, roots, expand, decimals, sign, help, explain, list_names}, Reports.{pool_report, dump_of, unknown_report, after_report}, Words.{help_report, word_report}}
use Rattle.calc_terms.specs.Trees.{Tree}
use Rattle.name_table.specs.Tables.{is_stored}
use Rattle.node_pool.specs.{declared.full.Full.{Full}, State.{State as PoolState}}
use Rattle.calc_session.specs.{Arguments.{bytes_before}, Calculating.{IsReplyToExpression}, Deriving.{IsReplyToDerivative}, Drawing.{latex_in, serial_in}, Estimating.{IsReplyToDecimal, IsReplyToSign}, Expanding.{IsReplyToExpansion}, Naming.{names_report}, Replies.{Reason}, Rooting.{IsReplyToRooting}}
use Rattle.calc_session.specs.{Replies.{Reply, report, forgot, drawn, refused, reserved, full}, Solving.{IsReplyToEquations}, States.{State, free_bytes}}

-- a pool with the session's nodes, before it refused anything
abbrev pub pool_in : State → PoolState
pool_in s = record { nodes = s.nodes; size = s.size; refusals = 0; last_refused = record { needed = 0; free = 0 } }

-- what is told of a layout, or that it finds no room
abbrev pub layout_reply : Result (List ℕ) Full → Reply
layout_reply (Ok told) = report told
layout_reply (Err refusal) = refused (full refusal)

-- the replies to a request to arm a breaker: the first that can be armed is
pub data IsReplyToArming (checks : ℕ) (before after : List Breaker) : Reply → Type 0 where
  arms_a_breaker : list_any (λ b. b.can_be_armed) before ≡ true → after ≡ armed_first checks before → IsReplyToArming checks before after (report (after_report checks))
  finds_no_breaker : list_any (λ b. b.can_be_armed) before ≡ false → after ≡ before → IsReplyToArming checks before after (report (codes "no breaker"))

-- the replies to a request to forget a name that is not stored
pub data IsReplyToForgetting (old : State) (x : List ℕ) : Reply → Type 0 where
  keeps_ans : bytes_eq x (codes "ans") ≡ true → IsReplyToForgetting old x (refused reserved)
  knows_no_name : bytes_eq x (codes "ans") ≡ false → is_stored x old.table ≡ false → IsReplyToForgetting old x (report (unknown_report x))

-- What is told, or why nothing is, in a state, by the room and bits that the reducer tells, and the breakers before and after.
abbrev pub IsTold : (room bits : Option (Tree → ℕ)) → State → (before after : List Breaker) → (line : List ℕ) → Asked → Reply → Type 0
IsTold room bits old before after line pool reply = (reply ≡ report (pool_report (pool_in old))) × (after ≡ before)
IsTold room bits old before after line dump reply = (reply ≡ report (dump_of (pool_in old))) × (after ≡ before)
IsTold room bits old before after line draw reply = ⊥
IsTold room bits old before after line layout reply = (reply ≡ layout_reply (serial_in old)) × (after ≡ before)
IsTold room bits old before after line latex reply = (reply ≡ layout_reply (latex_in old)) × (after ≡ before)
IsTold room bits old before after line (forget x) reply = IsReplyToForgetting old x reply × (after ≡ before)
IsTold room bits old before after line (arm checks) reply = IsReplyToArming checks before after reply
IsTold room bits old before after line (diff x text) reply = IsReplyToExpression old before after (bytes_before line text) text (IsReplyToDerivative room bits (free_bytes old) before after x) reply
IsTold room bits old before after line (solve text) reply = IsReplyToEquations old before after (bytes_before line text) text reply
IsTold room bits old before after line (roots x text) reply = IsReplyToRooting old before after (bytes_before line text) x text reply
IsTold room bits old before after line (expand text) reply = IsReplyToExpression old before after (bytes_before line text) text (IsReplyToExpansion (free_bytes old) before after) reply
IsTold room bits old before after line help reply = (reply ≡ report help_report) × (after ≡ before)
IsTold room bits old before after line list_names reply = (reply ≡ report (names_report old)) × (after ≡ before)
IsTold room bits old before after line (explain word) reply = (reply ≡ report (word_report word)) × (after ≡ before)
IsTold room bits old before after line (decimals places text) reply = IsReplyToExpression old before after (bytes_before line text) text (IsReplyToDecimal room bits places (free_bytes old) before after) reply
IsTold room bits old before after line (sign text) reply = IsReplyToExpression old before after (bytes_before line text) text (IsReplyToSign room bits (free_bytes old) before after) reply

-- The replies to a command: a report, or a refusal; or the name is forgotten; or the last answer is to be drawn.
pub data IsReplyToCommand (room bits : Option (Tree → ℕ)) (old : State) (before after : List Breaker) (line : List ℕ) : Asked → Reply → Type 0 where
  tells : {a : Asked} {text : List ℕ} → IsTold room bits old before after line a (report text) → IsReplyToCommand room bits old before after line a (report text)
  refuses : {a : Asked} {reason : Reason} → IsTold room bits old before after line a (refused reason) → IsReplyToCommand room bits old before after line a (refused reason)
  forgets : {x : List ℕ} → bytes_eq x (codes "ans") ≡ false → is_stored x old.table ≡ true → after ≡ before → IsReplyToCommand room bits old before after line (forget x) (forgot x)
  is_to_be_drawn : after ≡ before → IsReplyToCommand room bits old before after line draw drawn
