-- A line asks for one thing, and is answered by the replies to that.
use Rattle.session_laws.proofs.Shared.{both_ways, ◌≡◌, ℕ, ◌≤◌, List, length, Bool, true, false, Option, refl, ap, subst, arith, Asked, draw, forget, IsCommandLine, once, Tree, Placed, IsStorable}
use Rattle.session_laws.proofs.Shared.{IsReplyToCommand, IsTold, tells, refuses, forgets, is_to_be_drawn, ReadsTree, IsUnstorable, is_ans, finds_names_full, Reason, Reply, report, shown, stored}
use Rattle.session_laws.proofs.Shared.{undefined, State, IsReply, IsReplyTo, IsReplyToTree, IsReplyToValue, Asks, AsksInVain, Request, is_nothing, is_text, is_asked, commanded, is_long, is_no_line}
use Rattle.session_laws.proofs.Shared.{is_no_command, asks_in_vain, is_replied, is_evaluated, cannot_be_stored, asks_colon, blank_line, never_misread, one_text}
use Rattle.breakers.specs.State.{State as Breaker}
use Rattle.calc_session.specs.Asking.{value}

-- ---- what a line asks for

pub asks_once : {line : List ℕ} {a b : Request} → Asks line a → Asks line b → a ≡ b
asks_once (is_nothing h) (is_nothing k) = refl
asks_once (is_nothing h) (is_text r) = absurd (both_ways _ r.text.some h)
asks_once {line} (is_nothing h) (is_asked k) = absurd (both_ways _ (blank_line line h) (asks_colon k))
asks_once (is_text r) (is_nothing k) = absurd (both_ways _ r.text.some k)
asks_once {line} (is_text r) (is_text s) = let same = one_text line r.reads s.reads in (λ i. value (same.stores i) (same.trees i))
asks_once (is_text r) (is_asked k) = absurd (both_ways _ r.text.no_command (asks_colon k))
asks_once {line} (is_asked h) (is_nothing k) = absurd (both_ways _ (blank_line line k) (asks_colon h))
asks_once (is_asked h) (is_text s) = absurd (both_ways _ s.text.no_command (asks_colon h))
asks_once {line} (is_asked {a = a} h) (is_asked {a = b} k) = ap commanded (once line a b h k)

pub never_in_vain : {line : List ℕ} {a : Request} {reason : Reason} → length line ≤ 1024 → Asks line a → AsksInVain line reason → ⊥
never_in_vain short a (is_long l) = omega (arith, short, l)
never_in_vain short (is_nothing h) (is_no_line t k) = both_ways _ t.some h
never_in_vain {line} short (is_text r) (is_no_line t k) = never_misread line r.reads k
never_in_vain short (is_asked h) (is_no_line t k) = both_ways _ t.no_command (asks_colon h)
never_in_vain {line} short (is_nothing h) (is_no_command s c none) = both_ways _ (blank_line line h) c
never_in_vain short (is_text r) (is_no_command s c none) = both_ways _ r.text.no_command c
never_in_vain short (is_asked {a = a} h) (is_no_command s c none) = none a h

-- ---- the replies

-- a command that may change more than the text
abbrev pub changes : Asked → Bool
changes (forget x) = true
changes draw = true
changes a = false

module _ (room bits : Option (Tree → ℕ)) (old : State) (before after : List Breaker) (line : List ℕ) where
  pub answered : {request : Request} {reply : Reply} → Asks line request → length line ≤ 1024 → IsReply room bits old before after line reply → IsReplyTo room bits old before after line request reply
  answered a short (asks_in_vain v same) = absurd (never_in_vain short a v)
  answered {reply = reply} a short (is_replied s b h) = subst (λ r. IsReplyTo room bits old before after line r reply) (asks_once b a) h

  pub reported : {request : Request} {told : List ℕ} → Asks line request → IsReply room bits old before after line (report told) → IsReplyTo room bits old before after line request (report told)
  reported {told = told} a (is_replied s b h) = subst (λ r. IsReplyTo room bits old before after line r (report told)) (asks_once b a) h

  told_by : (a : Asked) → changes a ≡ false → {reply : Reply} → IsReplyToCommand room bits old before after line a reply → IsTold room bits old before after line a reply
  told_by a plain (tells h) = h
  told_by a plain (refuses h) = h
  told_by (forget x) plain (forgets b d e) = absurd cc
  told_by draw plain (is_to_be_drawn e) = absurd cc

  -- a command that changes nothing
  pub commanded_reply : (a : Asked) → changes a ≡ false → IsCommandLine line a → length line ≤ 1024 → (reply : Reply) → IsReply room bits old before after line reply → IsTold room bits old before after line a reply
  commanded_reply a plain asked short reply h = told_by a plain (answered (is_asked asked) short h)

  pub commanded_report : (a : Asked) → changes a ≡ false → IsCommandLine line a → (told : List ℕ) → IsReply room bits old before after line (report told) → IsTold room bits old before after line a (report told)
  commanded_report a plain asked told h = told_by a plain (reported (is_asked asked) h)

  -- an expression, or a store
  pub evaluated : {tokens : List Placed} {store : Option (List ℕ)} {t : Tree} {reply : Reply} → ReadsTree old.table line tokens store t → IsReply room bits old before after line reply → IsReplyToTree room bits old before after store t reply
  evaluated {store = store} {t = t} r h = by (answered (is_text r.reads) r.reads.text.short h)
    where
      unstorable : {s : Option (List ℕ)} {reason : Reason} → IsUnstorable old.table s reason → IsStorable s old.table → ⊥
      unstorable (is_ans is) (other, room) = both_ways _ other is
      unstorable (finds_names_full other full) (named, room) = both_ways _ full room

      by : {reply : Reply} → IsReplyToValue room bits old before after store t reply → IsReplyToTree room bits old before after store t reply
      by (cannot_be_stored u same) = absurd (unstorable u r.storable)
      by (is_evaluated s k) = k

-- ---- values

-- a tree is displayed, or the line is undefined
abbrev pub is_value_reply : Reply → Bool
is_value_reply (shown t) = true
is_value_reply (stored t x) = true
is_value_reply undefined = true
is_value_reply reply = false

-- the line was read, and this is a reply to what it reads as
pub record IsReplyToLine (room bits : Option (Tree → ℕ)) (old : State) (before after : List Breaker) (line : List ℕ) (reply : Reply) : Type 0 where
  pub tokens : List Placed
  pub store : Option (List ℕ)
  pub tree : Tree
  pub reads : ReadsTree old.table line tokens store tree
  pub reply_is : IsReplyToTree room bits old before after store tree reply

module _ (room bits : Option (Tree → ℕ)) (old : State) (before after : List Breaker) (line : List ℕ) where
  valued_by : {request : Request} {reply : Reply} → is_value_reply reply ≡ true → Asks line request → IsReplyTo room bits old before after line request reply → IsReplyToLine room bits old before after line reply
  valued_by v (is_nothing b) (e, same) = absurd (both_ways _ (ap is_value_reply e) v)
  valued_by v (is_text {tokens = tokens} {store = store} {t = t} r) (is_evaluated s k) = record { tokens = tokens; store = store; tree = t; reads = record { reads = r; storable = s }; reply_is = k }
  valued_by v (is_text r) (cannot_be_stored u same) = absurd cc
  valued_by v (is_asked a) (tells h) = absurd cc
  valued_by v (is_asked a) (refuses h) = absurd cc
  valued_by v (is_asked a) (forgets b d e) = absurd cc
  valued_by v (is_asked a) (is_to_be_drawn e) = absurd cc

  pub valued : (reply : Reply) → is_value_reply reply ≡ true → IsReply room bits old before after line reply → IsReplyToLine room bits old before after line reply
  valued reply v (asks_in_vain k same) = absurd cc
  valued reply v (is_replied short a h) = valued_by v a h
