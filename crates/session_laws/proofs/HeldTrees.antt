-- After each line the pool holds exactly the stored trees.
use Rattle.session_laws.proofs.Shared.{arith, ◌≡◌, ◌∙◌, ℕ, List, [], ◌∷◌, true, Option, Some, None, refl, sym, ap, subst, IsHeld, held_by, Table, with_answer, without_name, IsStorable, is_undef, false}
use Rattle.session_laws.proofs.Shared.{Forest, empty, tree, flatten, forest_of, join, root_id, holds, plains, forest_of_whole, Tree, more, none, face, filled, values}
use Rattle.session_laws.proofs.Shared.{Reason, Reply, shown, stored, forgot, refused, State, first_state, free_bytes, trees, IsReply, IsReplyToTree, Leaves, LeavesAnswer, LeavesOthers, Step, is_not_made, is_made, IsReduction, IsReplyWith, has_no_value, holds_its_name, is_shown, is_stored}
use Rattle.session_laws.proofs.Shared.{lacks_bytes, is_answered, Chain, Moment, Turn}
use Rattle.session_laws.proofs.{AskedLines.{IsReplyToLine, is_value_reply, valued}, LargeTrees.{not_root}, MadeTrees.{made_is}, NamedLines.{becomes_named, its_names, read_named, with_names}}
use Rattle.beautify.proofs.FaceTexts.{face_names, face_written}
use Rattle.breakers.specs.State.{State as Breaker}
use Rattle.calc_algebra.specs.Rewritings.{HasNoNewName, Reduces}
use Rattle.calc_language.specs.Texts.{HasNames}
use Rattle.calc_session.proofs.EvaluationLemmas.{keepable}
use Rattle.calc_session.specs.{Answers.{IsDisplayOf, LacksName}, Arguments.{ReadsText}}
use Rattle.calc_tokens.specs.Placed.{Placed}
use Rattle.calc_session.specs.Evaluations.{is_interrupted, does_not_fit}
use Rattle.calc_session.specs.Replies.{displayed}
use Rattle.calc_terms.specs.{Payload.{rational}, Ratio.{whole}, Trees.{Trees, whole_num}}
use Rattle.name_table.proofs.{FilledNames.{filled_lacks}, Ready.{IsReady, first_held, ready_answer, ready_held, ready_named, ready_without}}
use Rattle.name_table.specs.{Storing.{IsKeepable}, Tables.{first_table}}
use Rattle.std.specs.Prelude.{pos}
use Rattle.tree_handles.proofs.Given.{gives, represents_node, represents_none}
use Rattle.tree_handles.specs.{Forest.{arity, one_tree}, Handed.{Ends, Gives}}

-- ---- what is displayed may be kept

-- a line is answered by the face of what its tree, with names replaced, reduces to
pub record Displays (old : State) (line : List ℕ) (store : Option (List ℕ)) (t : Tree) : Type 0 where
  pub tokens : List Placed
  pub tree : Tree
  pub answer : Tree
  pub reads : ReadsText line tokens store tree
  pub storable : IsStorable store old.table
  pub reduces : Reduces (filled (values old.table (trees old)) tree) answer
  pub defined : is_undef answer ≡ false
  pub clear : LacksName store answer
  pub face_is : t ≡ face answer

reply_store : (s store : Option (List ℕ)) (u t : Tree) → displayed s u ≡ displayed store t → (s ≡ store) × (u ≡ t)
reply_store None None u t e = (refl, let f : shown u ≡ shown t = e in cc)
reply_store None (Some x) u t e = absurd (let f : shown u ≡ stored t x = e in cc)
reply_store (Some y) None u t e = absurd (let f : stored u y ≡ shown t = e in cc)
reply_store (Some y) (Some x) u t e = let f : stored u y ≡ stored t x = e in (cc, cc)

record IsDisplayed (answer : Tree) (s store : Option (List ℕ)) (t : Tree) : Type 0 where
  store_is : s ≡ store
  defined : is_undef answer ≡ false
  clear : LacksName store answer
  face_is : t ≡ face answer

displayed_with : (answer : Tree) (s : Option (List ℕ)) (reply : Reply) (store : Option (List ℕ)) (t : Tree) → IsReplyWith answer s reply → reply ≡ displayed store t → IsDisplayed answer s store t
displayed_with answer s reply None t (has_no_value d) e = absurd cc
displayed_with answer s reply (Some x) t (has_no_value d) e = absurd cc
displayed_with answer s reply None t (holds_its_name d m) e = absurd cc
displayed_with answer s reply (Some x) t (holds_its_name d m) e = absurd cc
displayed_with answer s reply store t (is_shown d) e = let p = reply_store None store (face answer) t e in record { store_is = p.0; defined = d; clear = subst (λ r. LacksName r answer) p.0 tt; face_is = sym p.1 }
displayed_with answer s reply store t (is_stored {x = y} d m) e = let p = reply_store (Some y) store (face answer) t e in record { store_is = p.0; defined = d; clear = subst (λ r. LacksName r answer) p.0 m; face_is = sym p.1 }

no_refusal : (store : Option (List ℕ)) (t : Tree) {reason : Reason} → refused reason ≡ displayed store t → ⊥
no_refusal None t e = cc
no_refusal (Some x) t e = cc

is_value : (store : Option (List ℕ)) (t : Tree) → is_value_reply (displayed store t) ≡ true
is_value None t = refl
is_value (Some x) t = refl

module _ (room bits : Option (Tree → ℕ)) (before after : List Breaker) (old : State) (line : List ℕ) where
  displayed_line : (store : Option (List ℕ)) (t : Tree) → IsReplyToLine room bits old before after line (displayed store t) → Displays old line store t
  displayed_line store t h = by (displayed store t) h.reply_is refl
    where
      reduced : (u : Tree) (reply : Reply) → u ≡ filled (values old.table (trees old)) h.tree → IsReduction room bits (free_bytes old) u before after h.store reply → reply ≡ displayed store t → Displays old line store t
      reduced u reply e (is_interrupted k) f = absurd (no_refusal store t f)
      reduced u reply e (does_not_fit o k) f = absurd (no_refusal store t f)
      reduced u reply e (lacks_bytes k) f = absurd (no_refusal store t f)
      reduced u reply e (is_answered {answer = r} c a w) f =
          let d = displayed_with r h.store reply store t w f in
          record {
            tokens = h.tokens;
            tree = h.tree;
            answer = r;
            reads = subst (λ s. ReadsText line h.tokens s h.tree) d.store_is h.reads.reads.reads;
            storable = subst (λ s. IsStorable s old.table) d.store_is h.reads.storable;
            reduces = subst (λ v. Reduces v r) e a.reduces;
            defined = d.defined;
            clear = d.clear;
            face_is = d.face_is;
          }

      by : (reply : Reply) → IsReplyToTree room bits old before after h.store h.tree reply → reply ≡ displayed store t → Displays old line store t
      by reply (is_not_made m same) e = absurd (no_refusal store t e)
      by reply (is_made {left = left} {t = u} m k) e = reduced u reply (made_is (free_bytes old) (values old.table (trees old)) h.tree left u m) k e

  pub displays : (store : Option (List ℕ)) (t : Tree) → IsReply room bits old before after line (displayed store t) → Displays old line store t
  displays store t h = displayed_line store t (valued room bits old before after line (displayed store t) (is_value store t) h)

lacking_face : (store : Option (List ℕ)) (answer : Tree) → HasNoNewName answer (face answer) → LacksName store answer → LacksName store (face answer)
lacking_face None answer n h = tt
lacking_face (Some x) answer n h = λ m. h (n.name x m)

-- its symbols are names
pub named_answer : (old : State) (line : List ℕ) (store : Option (List ℕ)) (t : Tree) → IsHeld old.table (trees old) → (d : Displays old line store t) → HasNames d.answer
named_answer old line store t held d =
    let all = becomes_named old.table (trees old) d.tree held.writable (read_named d.reads) in
    with_names d.answer (λ x m. its_names (filled (values old.table (trees old)) d.tree) all x (d.reduces.no_new_name.name x m))

-- it can be written, and holds no name of the table
kept_face : (old : State) (line : List ℕ) (store : Option (List ℕ)) (t : Tree) → IsHeld old.table (trees old) → Displays old line store t → IsKeepable store old.table t
kept_face old line store t held d =
    let u = filled (values old.table (trees old)) d.tree in
    let named = named_answer old line store t held d in
    let no_new = face_names d.answer d.reduces.reduced named in
    let display : IsDisplayOf store u (face d.answer) = record {
      writable = face_written d.answer d.reduces.reduced named;
      no_new_name = record { name = λ x m. d.reduces.no_new_name.name x (no_new.name x m) };
      clear = lacking_face store d.answer no_new d.clear;
    } in
    subst (IsKeepable store old.table) (sym d.face_is) (keepable store old.table u (face d.answer) (filled_lacks old.table (trees old) d.tree held) display)

-- ---- what is left

held_left : (t : Table) (f : Forest) (s : State) → s.table ≡ t → s.nodes ≡ flatten (held_by t f) → IsReady t f → IsHeld s.table (trees s)
held_left t f s table nodes ready =
    let trees_are : trees s ≡ held_by t f = ap forest_of nodes ∙ forest_of_whole (held_by t f) in
    subst (λ u. IsHeld u (trees s)) (sym table) (subst (IsHeld t) (sym trees_are) (ready_held t f ready))

root_holds : (f : Forest) (t : Tree) → plains f ≡ more t none → holds (root_id f) f ≡ true
root_holds f t e = grind arith

no_trees : (f : Forest) → plains f ≡ none → arity f ≡ 0
no_trees empty e = refl
no_trees (tree l k r) e = absurd cc

rest_is : (t u : Tree) (ts us : Trees) → more t ts ≡ more u us → ts ≡ us
rest_is t u ts us e = cc

stands_alone : (f : Forest) (t : Tree) → plains f ≡ more t none → arity f ≡ 1
stands_alone empty t e = absurd cc
stands_alone (tree l k r) t e = omega (arith, no_trees r (rest_is _ t (plains r) none e))

ready_with : (store : Option (List ℕ)) {t : Table} {others f : Forest} {i : ℕ} → IsHeld t others → Gives others f i (IsKeepable store t) → IsStorable store t → IsReady (with_answer store i t) f
ready_with None held g s = ready_answer held g
ready_with (Some x) held g s = ready_named x held g s.0 s.1

-- the new tree stands last
pub answer_left : {store : Option (List ℕ)} {t : Tree} {old new : State} (Told : Tree → Type 0) (leaves : LeavesAnswer store t old new) → Told t → Gives (trees old) (join (trees old) leaves.tree) (root_id leaves.tree) Told
answer_left {t = t} {old = old} Told leaves told =
    let i = root_id leaves.tree in
    let alone = leaves.tree_is.plain_trees in
    let ends : Ends i leaves.tree (trees old) (join (trees old) leaves.tree) = record { whole = refl; alone = stands_alone leaves.tree t alone; root = refl; clear = not_root i old.nodes (leaves.new_nodes i (root_holds leaves.tree t alone)) } in
    gives ends leaves.tree_is told

held_answer : (store : Option (List ℕ)) (t : Tree) (old new : State) → IsHeld old.table (trees old) → IsStorable store old.table → IsKeepable store old.table t → LeavesAnswer store t old new → IsHeld new.table (trees new)
held_answer store t old new held storable keep leaves =
    let i = root_id leaves.tree in
    let g = answer_left (IsKeepable store old.table) leaves keep in
    held_left (with_answer store i old.table) (join (trees old) leaves.tree) new leaves.table
    (leaves.nodes ∙ ap (λ u. flatten (held_by u (join (trees old) leaves.tree))) leaves.table)
    (ready_with store held g storable)

held_others : (x : List ℕ) (old new : State) → IsHeld old.table (trees old) → LeavesOthers x old new → IsHeld new.table (trees new)
held_others x old new held leaves =
    held_left (without_name x old.table) (trees old) new leaves.table (leaves.nodes ∙ ap (λ u. flatten (held_by u (trees old))) leaves.table) (ready_without x held)

module _ (room bits : Option (Tree → ℕ)) (old new : State) (before after : List Breaker) (line : List ℕ) (held : IsHeld old.table (trees old)) where
  held_by_reply : (reply : Reply) → IsReply room bits old before after line reply → Leaves reply old new → IsHeld new.table (trees new)
  held_by_reply (shown t) h leaves = let d = displays room bits before after old line None t h in held_answer None t old new held d.storable (kept_face old line None t held d) leaves
  held_by_reply (stored t x) h leaves = let d = displays room bits before after old line (Some x) t h in held_answer (Some x) t old new held d.storable (kept_face old line (Some x) t held d) leaves
  held_by_reply (forgot x) h leaves = held_others x old new held leaves
  held_by_reply _ h leaves = subst (λ (s : State). IsHeld s.table (trees s)) (sym leaves) held

  pub held_behind : (reply : Reply) → Step room bits old before line reply new after → IsHeld new.table (trees new)
  held_behind reply step = held_by_reply reply step.reply_is step.state_is

-- ---- chains

pub held_along : (lines : List (List ℕ)) (old : Moment) (turns : List Turn) (new : Moment) → IsHeld old.state.table (trees old.state) → Chain old lines turns new → IsHeld new.state.table (trees new.state)
held_along [] old turns new held h = subst (λ (m : Moment). IsHeld m.state.table (trees m.state)) (sym h.1) held
held_along (line ∷ lines) old turns new held (turn, rest, step, is, h) =
    held_along lines turn.after rest new (held_behind _ _ old.state turn.after.state old.breakers step.checked line held turn.reply step.step) h

-- ---- the beginning

keepable_zero : IsKeepable None (first_table 0) (whole_num 0)
keepable_zero = record { writable = (0, refl); clear = λ x m (k, l, e). absurd (omega arith) }

pub held_first : (size : ℕ) → IsHeld (first_state size).table (trees (first_state size))
held_first size =
    let zero_there = one_tree 0 (rational (whole (pos 0))) empty in
    let trees_are : trees (first_state size) ≡ zero_there = forest_of_whole zero_there in
    let ends : Ends 0 zero_there empty zero_there = record { whole = refl; alone = refl; root = refl; clear = refl } in
    subst (IsHeld (first_table 0)) (sym trees_are) (first_held 0 zero_there (gives ends (represents_node 0 (rational (whole (pos 0))) represents_none refl) keepable_zero))
