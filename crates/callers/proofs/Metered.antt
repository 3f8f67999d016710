-- What is written is counted.
use Rattle.std.proofs.Common.{◌≡◌, ◌∙◌, ℕ, ◌-◌, ◌^◌, min, List, [], ◌++◌, append-nil, length, None, Some, sym, ap, subst}
use Rattle.breakers.specs.State.{State as Breaker}
use Rattle.calc_session.specs.{Answers.{Answers}, States.{State, first_state}, declared.answers.LineAnswer.{LineAnswer}}
use Rattle.callers.specs.{Answering.{IsFirstAnswer}, Meters.{AreAnsweredIn, beginning}}
use Rattle.poincare_run.specs.{Beginnings.{IfReads, beginning_of}, Endings.{ReadsAll}, Lines.{lines_of}, Options.{options_of}, Steps.{Transcript, bits, room}}

-- the whole input was read, and its answers went by
pub answered_in : (input left out : List ℕ) (count : ℕ) → ReadsAll beginning (record { given = None; left = Some input }) (record { given = None; left = Some left }) (Some []) (Some out) → count ≡ min (length out) (2 ^ 64 - 1)
    → AreAnsweredIn input count
answered_in input left out count all is =
    let whole : input ≡ all.input = all.read.left ∙ ap (λ rest. all.input ++ rest) all.nothing_left ∙ append-nil all.input in
    record {
      text = all.written.out;
      transcript = subst (λ bytes. Transcript beginning (lines_of bytes) all.written.out) (sym whole) all.written.transcript;
      count_is = is ∙ ap (λ bytes. min (length bytes) (2 ^ 64 - 1)) all.written.appended;
    }

-- from what `run` says where its words and breakers are none
pub answered_from : {B : Type 0} (state : B → Breaker) (breakers : List B) (input source left taken out : List ℕ) → breakers ≡ [] → source ≡ input → taken ≡ []
    → IfReads (beginning_of {Z = Unit {0}} state [] breakers) (λ start. ReadsAll start (record { given = None; left = Some source }) (record { given = None; left = Some left }) (Some taken) (Some out))
    → ReadsAll beginning (record { given = None; left = Some input }) (record { given = None; left = Some left }) (Some []) (Some out)
unfolding options_of
answered_from {B} state breakers input source left taken out b s t h =
    let one = subst (λ (bs : List B). IfReads (beginning_of {Z = Unit {0}} state [] bs) (λ start. ReadsAll start (record { given = None; left = Some source }) (record { given = None; left = Some left }) (Some taken) (Some out))) b h in
    subst (λ bytes. ReadsAll beginning (record { given = None; left = Some input }) (record { given = None; left = Some left }) (Some bytes) (Some out)) t
    (subst (λ bytes. ReadsAll beginning (record { given = None; left = Some bytes }) (record { given = None; left = Some left }) (Some taken) (Some out)) s one)

-- ---- the first answer

pub first_answer : {line text told : List ℕ} {answer : LineAnswer} {s after : State} {before checked : List Breaker} → Answers room bits s before line answer told after checked → s ≡ first_state 32768 → before ≡ [] → text ≡ told → IsFirstAnswer line answer text
first_answer {line} {text} {told} {answer} {s} {after} {before} {checked} h e b t =
    let one = subst (λ (x : State). Answers room bits x before line answer told after checked) e h in
    let two = subst (λ (x : List Breaker). Answers room bits (first_state 32768) x line answer told after checked) b one in
    record { after = after; checked = checked; answers = subst (λ (x : List ℕ). Answers room bits (first_state 32768) [] line answer x after checked) (sym t) two }
