-- Lemmas on commands.
use Rattle.calc_session.proofs.Shared.{◌≡◌, ◌∙◌, ◌↔◌, zero, suc, [], ◌∷◌, ◌++◌, codes, true, false, refl, ap, arith, TripsRose, armed_first, forget, forgot_report, Tree, AnswersBy, IsReplyToCommand}
use Rattle.calc_session.proofs.Shared.{forgets, forgot, text_of, Content, extended, bytes_eq, IsHeld, held_by, Entry, Table, has_entry, without_entry, without_name, flatten, Stands, forest}
use Rattle.calc_session.proofs.{Shared.{KeepsRefusals, LineAnswer, Refusal, state_of, counted-same}, EvaluationLemmas.{none_rose}}
use Rattle.std.proofs.Common.{ℕ, List, Option, Some}
use Rattle.breakers.specs.State.{State as Breaker}
use Rattle.name_table.specs.Tables.{is_stored}
use Rattle.node_pool.specs.State.{State as PoolState}
use Rattle.calc_session.specs.declared.answers.LineAnswer.TheVariants as answer
use Rattle.calc_session.specs.declared.answers.Refusal.TheVariants as refusal

-- ---- armed breakers

-- arming raises no trips
pub arming_trips_none : (k : ℕ) (bs : List Breaker) (place : ℕ) → TripsRose bs (armed_first k bs) place → ⊥
arming_trips_none k [] place h = h
arming_trips_none k (b ∷ bs) zero h = grind (arith, arming_trips_none k bs, none_rose)
arming_trips_none k (b ∷ bs) (suc place) h = grind (arith, arming_trips_none k bs place, none_rose bs place)

-- ---- names that are not stored

absent_entry : (x : List ℕ) (es : List Entry) → has_entry x es ≡ false → without_entry x es ≡ es
absent_entry x [] e = refl
absent_entry x (n ∷ es) e = grind (arith, absent_entry x es)

pub absent_name : (x : List ℕ) (t : Table) → is_stored x t ≡ false → without_name x t ≡ t
absent_name x t e = ap (λ (l : List Entry). record t { stored = l }) (absent_entry x t.stored e)

-- ---- forgetting

module _ (p q : PoolState) (t u : Table) (x : List ℕ) (st : Stands p) (st' : Stands q) (k : KeepsRefusals p q) (is : u ≡ without_name x t) (trees : forest q ≡ held_by u (forest p)) where
  pub same_pool : IsHeld t (forest p) → is_stored x t ≡ false → state_of q u ≡ state_of p t
  same_pool held absent = grind (arith, absent_name, counted-same)

  pub answers_forgot : (room bits : Option (Tree → ℕ)) (breakers : List Breaker) (line written : List ℕ) → bytes_eq x (codes "ans") ≡ false → is_stored x t ≡ true → written ≡ forgot_report x
      → AnswersBy (IsReplyToCommand room bits (state_of p t) breakers breakers line (forget x)) (state_of p t) answer.Report written (state_of q u)
  unfolding text_of
  answers_forgot room bits breakers line written other stored e = record {
    reply = forgot x;
    reply_is = forgets other stored refl;
    state_is = record { size = k.size; table = is; nodes = st'.flat ∙ ap flatten trees };
    answer_is = (forgot_report x, refl);
    text_is = ap Some e;
  }

-- ---- arming

pub written : (old new : Content) (told : List ℕ) → new ≡ extended old told → old.bytes ≡ [] → new.bytes ≡ told
written old new told e empty = ap (λ (t : Content). t.bytes) e ∙ ap (λ (b : List ℕ). b ++ told) empty

-- ---- interruptions

pub calm_told : (given : LineAnswer) (before checked : List Breaker) → ((place : ℕ) → given ≡ answer.Refused (refusal.Interrupted place) → ⊥) → ((place : ℕ) → TripsRose before checked place → ⊥) → (place : ℕ)
    → ((given ≡ answer.Refused (refusal.Interrupted place)) ↔ TripsRose before checked place)
calm_told given before checked h k place = (λ e. absurd (h place e), λ rose. absurd (k place rose))

refusals_are : (r s : Refusal) → answer.Refused r ≡ answer.Refused s → r ≡ s
refusals_are r s e = cc

pub refusal_uninterrupted : (r : Refusal) → ((place : ℕ) → r ≡ refusal.Interrupted place → ⊥) → (place : ℕ) → answer.Refused r ≡ answer.Refused (refusal.Interrupted place) → ⊥
refusal_uninterrupted r h place e = h place (refusals_are r (refusal.Interrupted place) e)

-- an answer passes on a refusal
pub told_refusal : (r : Refusal) (P : ℕ → Type 0) → ((place : ℕ) → (r ≡ refusal.Interrupted place) ↔ P place) → (place : ℕ) → (answer.Refused r ≡ answer.Refused (refusal.Interrupted place)) ↔ P place
told_refusal r P h place = (λ e. (h place).0 (refusals_are r (refusal.Interrupted place) e), λ p. ap answer.Refused ((h place).1 p))
