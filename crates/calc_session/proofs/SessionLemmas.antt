-- Lemmas on the state of a session, and on what a line leaves of it.
use Rattle.calc_session.proofs.Shared.{◌≡◌, ◌∙◌, ◌↔◌, ◌*◌, [], ◌∷◌, ◌++◌, codes, true, false, refl, sym, ap, subst, arith, TripsRose, Asked, IsCommandLine, text, Node, Tree, none, more, size, Placed}
use Rattle.calc_session.proofs.Shared.{held_by, Table, with_answer, Full, has, IsExpression, plain, Forest, flatten, Gives, tree_at, Stands, forest, flatten-join, has-flatten, given_handed}
use Rattle.calc_session.proofs.Shared.{given_root, given_told, expression_root, plain_root, alone, LineAnswer, Refusal, answer_to, Answers, AnswersBy, AnswersUntold, IsAnswer, IsTextOf, printed}
use Rattle.calc_session.proofs.Shared.{reason_of, reply_of, IsReplyToCommand, IsUnstorable, ReadsAs, ReadsTree, Reply, blank, displayed, refusal_in, text_of, undefined, are_blanks, State, state_of}
use Rattle.calc_session.proofs.Shared.{AsksInVain, is_nothing, is_text, is_asked, IsReply, IsReplyToTree, asks_in_vain, is_replied, is_evaluated, cannot_be_stored, Leaves, LeavesAnswer, AreApart}
use Rattle.calc_session.proofs.{Shared.{AreDistinct-parts}, CommandLemmas.{calm_told, refusal_uninterrupted}, EvaluationLemmas.{last_bytes, none_rose}}
use Rattle.std.proofs.Common.{ℕ, ◌+◌, ◌≤◌, List, length, Option, Some, None}
use Rattle.breakers.specs.State.{State as Breaker}
use Rattle.node_pool.specs.{Nodes.{AreDistinct}, State.{State as PoolState}}
use Rattle.calc_session.specs.Pools.{after as undone}
use Rattle.calc_session.specs.declared.answers.LineAnswer.TheVariants as answer
use Rattle.calc_session.specs.declared.answers.Refusal.TheVariants as refusal

-- ---- the same state

pub same_after : (refusal : Option Full) (p q : PoolState) (t : Table) → q ≡ undone refusal p.nodes p → state_of q t ≡ state_of p t
same_after refusal p q t e = grind arith

-- ---- a new answer

-- an identifier is not on both sides
apart_from : (a b : List Node) (id : ℕ) → AreApart a b → has id b ≡ true → has id a ≡ false
apart_from [] b id h k = refl
apart_from (n ∷ a) b id h k = grind (arith, apart_from a b id h.1 k)

module _ (old mid new : PoolState) (table table' : Table) (h : ℕ) (u : Tree) (store : Option (List ℕ)) (st : Stands old) (st' : Stands mid) (g : Gives (forest old) (forest mid) h (λ x. x ≡ u)) where
  behind : mid.nodes ≡ old.nodes ++ flatten g.tree
  behind = st'.flat ∙ ap flatten g.ends.whole ∙ flatten-join (forest old) g.tree ∙ ap (λ (ns : List Node). ns ++ flatten g.tree) (sym st.flat)

  parts : AreDistinct old.nodes × AreDistinct (flatten g.tree) × AreApart old.nodes (flatten g.tree)
  parts = AreDistinct-parts old.nodes (flatten g.tree) (subst AreDistinct behind st'.pool.distinct)

  -- the new tree is kept
  pub leaves_answer : Stands new → new.size ≡ old.size → table' ≡ with_answer store h table → forest new ≡ held_by table' (forest mid) → LeavesAnswer store u (state_of old table) (state_of new table')
  leaves_answer st'' size is trees = record {
    tree = g.tree;
    tree_is = record { once = g.once; whole = g.whole; plain_trees = alone g.tree g.ends.alone ∙ ap (λ (x : Tree). more x none) g.told };
    distinct = parts.1;
    new_nodes = λ id m. apart_from old.nodes (flatten g.tree) id parts.2 (has-flatten id g.tree ∙ m);
    size = size;
    table = is ∙ ap (λ i. with_answer store i table) (sym g.ends.root);
    nodes = st''.flat ∙ ap flatten (trees ∙ ap (held_by table') g.ends.whole);
  }

pub displayed_leaves : (store : Option (List ℕ)) (u : Tree) (s t : State) → LeavesAnswer store u s t → Leaves (displayed store u) s t
displayed_leaves store u s t l = grind arith

answers_displayed : (store : Option (List ℕ)) (u : Tree) → IsAnswer (answer_to store) (displayed store u)
answers_displayed store u = grind arith

text_displayed : (store : Option (List ℕ)) (u : Tree) (written : List ℕ) → written ≡ text u → IsTextOf (answer_to store) written (displayed store u)
unfolding text_of
text_displayed store u written e = grind arith

-- ---- answers

printed_is : (given : LineAnswer) (reply : Reply) (written : List ℕ) → ((r : Refusal) → given ≡ answer.Refused r → ⊥) → IsTextOf given written reply → IsAnswer given reply → printed given written ≡ text_of reply
unfolding text_of
printed_is given reply written h t a = grind arith

module _ (room bits : Option (Tree → ℕ)) (before after : List Breaker) (line : List ℕ) where
  -- a reply to a line that is evaluated
  evaluated : (s : State) (tokens : List Placed) (store : Option (List ℕ)) (t : Tree) (reply : Reply) → ReadsTree s.table line tokens store t → IsReplyToTree room bits s before after store t reply → IsReply room bits s before after line reply
  evaluated s tokens store t reply reads h = is_replied reads.reads.text.short (is_text reads.reads) (is_evaluated reads.storable h)

  pub answers_refusal : (p q : PoolState) (table : Table) (tokens : List Placed) (store : Option (List ℕ)) (t : Tree) (refusal : Refusal) (written : List ℕ) → ReadsTree table line tokens store t
      → IsReplyToTree room bits (state_of p table) before after store t (reply_of refusal) → q ≡ undone (refusal_in (reason_of refusal)) p.nodes p → written ≡ []
      → AnswersUntold room bits (state_of p table) before line (answer.Refused refusal) written (state_of q table) after
  answers_refusal p q table tokens store t refusal written k l m n =
      record { reply = reply_of refusal; reply_is = evaluated (state_of p table) tokens store t (reply_of refusal) k l; state_is = same_after (refusal_in (reason_of refusal)) p q table m; answer_is = refl; text_is = n }

  pub answers_undefined : (p q : PoolState) (table : Table) (tokens : List Placed) (store : Option (List ℕ)) (t : Tree) (written : List ℕ) → ReadsTree table line tokens store t
      → IsReplyToTree room bits (state_of p table) before after store t undefined → q ≡ undone None p.nodes p → written ≡ codes "undef"
      → AnswersUntold room bits (state_of p table) before line answer.Undef written (state_of q table) after
  unfolding text_of
  answers_undefined p q table tokens store t written k l m n =
      record { reply = undefined; reply_is = evaluated (state_of p table) tokens store t undefined k l; state_is = same_after None p q table m; answer_is = refl; text_is = ap Some n }

  pub answers_face : (s t : State) (tokens : List Placed) (store : Option (List ℕ)) (tree u : Tree) (written : List ℕ) → ReadsTree s.table line tokens store tree
      → IsReplyToTree room bits s before after store tree (displayed store u) → LeavesAnswer store u s t → written ≡ text u
      → AnswersUntold room bits s before line (answer_to store) written t after
  answers_face s t tokens store tree u written reads h leaves is =
      record { reply = displayed store u; reply_is = evaluated s tokens store tree (displayed store u) reads h; state_is = displayed_leaves store u s t leaves; answer_is = answers_displayed store u; text_is = text_displayed store u written is }

  -- a line that cannot be stored
  pub answers_unstorable : (s : State) (tokens : List Placed) (store : Option (List ℕ)) (t : Tree) (refusal : Refusal) (written : List ℕ) → ReadsAs line tokens store t → IsUnstorable s.table store (reason_of refusal) → after ≡ before → written ≡ []
      → AnswersUntold room bits s before line (answer.Refused refusal) written s after
  answers_unstorable s tokens store t refusal written reads h calm empty =
      record { reply = reply_of refusal; reply_is = is_replied reads.text.short (is_text reads) (cannot_be_stored h calm); state_is = refl; answer_is = refl; text_is = empty }

  -- a line that asks for nothing that is known
  pub answers_vain : (s : State) (refusal : Refusal) (written : List ℕ) → AsksInVain line (reason_of refusal) → after ≡ before → written ≡ [] → AnswersUntold room bits s before line (answer.Refused refusal) written s after
  answers_vain s refusal written h calm empty = record { reply = reply_of refusal; reply_is = asks_in_vain h calm; state_is = refl; answer_is = refl; text_is = empty }

  pub answers_blank : (s : State) (written : List ℕ) → length line ≤ 1024 → are_blanks line ≡ true → after ≡ before → written ≡ [] → AnswersUntold room bits s before line answer.Blank written s after
  answers_blank s written short h calm empty = record { reply = blank; reply_is = is_replied short (is_nothing h) (refl, calm); state_is = refl; answer_is = refl; text_is = empty }

  -- a command
  pub answers_command : (s t : State) (a : Asked) (given : LineAnswer) (written : List ℕ) → length line ≤ 1024 → IsCommandLine line a → AnswersBy (IsReplyToCommand room bits s before after line a) s given written t
      → AnswersUntold room bits s before line given written t after
  answers_command s t a given written short asked h = record { reply = h.reply; reply_is = is_replied short (is_asked asked) h.reply_is; state_is = h.state_is; answer_is = h.answer_is; text_is = h.text_is }

  -- a text that is no refusal's is written already
  pub told_other : (s t : State) (given : LineAnswer) (written : List ℕ) → ((r : Refusal) → given ≡ answer.Refused r → ⊥) → AnswersUntold room bits s before line given written t after
      → Answers room bits s before line given written t after
  unfolding text_of
  told_other s t given written h a = record { reply = a.reply; step = record { reply_is = a.reply_is; state_is = a.state_is }; answer_is = a.answer_is; text_is = printed_is given a.reply written h a.text_is a.answer_is }

  pub told_refusal : (s t : State) (refusal : Refusal) (written told : List ℕ) → AnswersUntold room bits s before line (answer.Refused refusal) written t after → Some told ≡ text_of (reply_of refusal)
      → Answers room bits s before line (answer.Refused refusal) told t after
  told_refusal s t refusal written told a e = record { reply = a.reply; step = record { reply_is = a.reply_is; state_is = a.state_is }; answer_is = a.answer_is; text_is = e ∙ ap text_of (sym a.answer_is) }

-- ---- the face before it is kept

module _ (p : PoolState) (others : Forest) (h id : ℕ) (u : Tree) (st : Stands p) (g : Gives others (forest p) h (λ x. x ≡ u)) (e : id ≡ h) where
  pub face_expression : IsExpression id (forest p)
  face_expression = subst (λ i. IsExpression i (forest p)) (sym e) (expression_root st (given_handed g))

  pub face_tree : plain (tree_at id (forest p)) ≡ u
  face_tree = ap (λ i. plain (tree_at i (forest p))) e ∙ plain_root h st (given_root g) ∙ given_told g

  pub face_room : 2 * size (plain (tree_at id (forest p))) ≤ 3 * p.size + 256
  face_room = omega (arith, last_bytes st g, ap size face_tree, ap size (given_told g), st.pool.fits)

-- ---- answers without checks

pub calm_refusal : (r : Refusal) (bs : List Breaker) → ((place : ℕ) → r ≡ refusal.Interrupted place → ⊥) → (place : ℕ) → ((answer.Refused r ≡ answer.Refused (refusal.Interrupted place)) ↔ TripsRose bs bs place)
calm_refusal r bs h = calm_told (answer.Refused r) bs bs (refusal_uninterrupted r h) (none_rose bs)

pub blank_text : (room bits : Option (Tree → ℕ)) (s t : State) (before after : List Breaker) (line written : List ℕ) (given : LineAnswer) → AnswersUntold room bits s before line given written t after → given ≡ answer.Blank → written ≡ []
blank_text room bits s t before after line written given a e = subst (λ (x : LineAnswer). IsTextOf x written a.reply) e a.text_is

pub draw_text : (room bits : Option (Tree → ℕ)) (s t : State) (before after : List Breaker) (line written : List ℕ) (given : LineAnswer) → AnswersUntold room bits s before line given written t after → given ≡ answer.Draw → written ≡ []
draw_text room bits s t before after line written given a e = subst (λ (x : LineAnswer). IsTextOf x written a.reply) e a.text_is
