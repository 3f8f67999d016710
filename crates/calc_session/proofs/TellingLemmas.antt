-- Lemmas on what is told of an evaluation.
use Rattle.std.proofs.Common.{arith, ◌≡◌, ◌+◌, ◌↔◌, ℕ, List, Option, None, refl, subst}
use Rattle.calc_session.proofs.Shared.{Asked, IsWritable, Tree, size, Placed, fills, values, free_of, Table, Forest, Gives, tree_of, without_root, Stands, forest, given_rest, given_told, LineAnswer}
use Rattle.calc_session.proofs.Shared.{Refusal, Evaluation, AnswersBy, ComesTo, TellsAs, Tells, refusal_of_evaluation, refusal_of_pool, reply_of, ReadsText, IsReplyToCommand, IsReplyToExpression}
use Rattle.calc_session.proofs.{Shared.{IsTold, tells, refuses, is_read, is_made, made, Reply, report, reported, text_of, State, state_of, HasFace}, EvaluationLemmas.{comes_as, free_before}}
use Rattle.node_pool.specs.State.{State as PoolState}
use Rattle.breakers.specs.State.{State as Breaker}
use Rattle.calc_session.specs.declared.answers.LineAnswer.TheVariants as answer
use Rattle.calc_session.specs.declared.evaluating.Evaluation.TheVariants as evaluation

-- ---- replies

reported_refusal : (r : Refusal) → reported (reply_of r) ≡ reply_of r
reported_refusal r = grind arith

pub has_face : (Is : Reply → Type 0) (others f : Forest) (e : Evaluation) → ComesTo Is IsWritable None others f e → HasFace f e
has_face Is others f e h = grind arith

-- what is told of an evaluation is told of its tree
pub told_as : (Is : Reply → Type 0) (s : PoolState) (others : Forest) (e : Evaluation) (given : LineAnswer) (written : List ℕ) → ComesTo (λ r. Is (reported r)) IsWritable None others (forest s) e → Tells s e given written → TellsAs Is given written
told_as Is s others (evaluation.Face h) given written (t, is, w, g) (a, b) = rw (a, b, given_told g) is
told_as Is s others evaluation.Undefined given written is (a, b) = rw (a, b) is
told_as Is s others (evaluation.Found f) given written is (a, b) = rw (a, b) is
told_as Is s others (evaluation.Refused r) given written is (a, b) = rw (a, b) (subst Is (reported_refusal r) is, refl)

pub tells_as : (Is Now : Reply → Type 0) (given : LineAnswer) (written : List ℕ) → ((r : Reply) → Is r → Now r) → TellsAs Is given written → TellsAs Now given written
tells_as Is Now answer.Report written to h = to (report written) h
tells_as Is Now (answer.Refused r) written to h = (to (reply_of r) h.0, h.1)
tells_as Is Now _ written to h = absurd h

-- a command is answered by what is told
pub told_command : (room bits : Option (Tree → ℕ)) (s t : State) (before after : List Breaker) (line : List ℕ) (a : Asked) (given : LineAnswer) (written : List ℕ) → t ≡ s → TellsAs (IsTold room bits s before after line a) given written
    → AnswersBy (IsReplyToCommand room bits s before after line a) s given written t
unfolding text_of
told_command room bits s t before after line a answer.Report written same h = record { reply = report written; reply_is = tells h; state_is = same; answer_is = (written, refl); text_is = refl }
told_command room bits s t before after line a (answer.Refused r) written same h = record { reply = reply_of r; reply_is = refuses h.0; state_is = same; answer_is = refl; text_is = h.1 }
told_command room bits s t before after line a _ written same h = absurd h

-- ---- interruptions

pub told_interruption : (s : PoolState) (e : Evaluation) (given : LineAnswer) (written : List ℕ) (r : Refusal) (Rose : Type 0) → Tells s e given written → ((e ≡ evaluation.Refused r) ↔ Rose) → ((given ≡ answer.Refused r) ↔ Rose)
told_interruption s e given written r Rose h k = grind arith

-- ---- refusals

pub told_lack : (s : PoolState) (e : Evaluation) (given : LineAnswer) (written : List ℕ) → Tells s e given written → refusal_of_pool given ≡ refusal_of_evaluation e
told_lack s e given written h = grind arith

-- ---- the same state

pub same_again : (s t : PoolState) (table : Table) → Stands s → Stands t → t.size ≡ s.size → forest t ≡ forest s → state_of t table ≡ state_of s table
same_again s t table h k e f = grind arith

-- ---- what is calculated of an expression

module _ (rule : ℕ → List Breaker → List Breaker → ℕ → Tree → Reply → Type 0) (before after : List Breaker) (table : Table) (place : ℕ) (text : List ℕ) where
  -- once it is read, built and filled
  pub comes_calculated : (old mid : PoolState) {i : ℕ} {P : Tree → Type 0} (new : Forest) {tokens : List Placed} {t : Tree} (e : Evaluation) → Stands old → Stands mid → mid.size ≡ old.size → Gives (forest old) (forest mid) i P
      → ReadsText text tokens None t → made (free_of old) (values table (forest old)) t ≡ fills (free_of mid) (tree_of i mid)
      → ComesTo (λ r. rule (free_of mid + size (tree_of i mid)) before after (free_of mid) (tree_of i mid) (reported r)) IsWritable None (without_root i (forest mid)) new e
      → ComesTo (λ r. IsReplyToExpression (state_of old table) before after place text (rule (free_of old) before after) (reported r)) IsWritable None (forest old) new e
  comes_calculated old mid {i} new e st st' same g reads is h =
      comes_as {Now = λ r. IsReplyToExpression (state_of old table) before after place text (rule (free_of old) before after) (reported r)} None new e
      (λ r m. is_read reads (is_made is (subst (λ n. rule n before after (free_of mid) (tree_of i mid) (reported r)) (free_before st st' same g) m))) (λ v w. w) (given_rest g) h
