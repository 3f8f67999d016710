-- Lemmas on the steps of a session, and on how far it has come.
use Rattle.std.proofs.Common.{◌≡◌, ◌∙◌, ◌⊎◌, inl, inr, ℕ, List, [], ◌∷◌, ◌++◌, length, ◌<◌, Bool, true, false, Option, refl, sym, ap, subst, arith, append_assoc, append-nil}
use Rattle.poincare_run.proofs.Shared.{leb-true, leb-false, strip_carriage_return, LineAnswer, Blank, Shown, Stored, Draw, Answers, IsAnswer, IsReport, printed, Reason, Reply}
use Rattle.poincare_run.proofs.Shared.{State, IsReply, asks_in_vain, is_replied, LineBuffer, is_newline, lines_of, whole_lines, rest_of, all_written, bits, Chain, LineStep, Moment}
use Rattle.poincare_run.proofs.Shared.{Turn, is_drawn, picture_if, picture_text, replies_of, room, Steps, with_newline, written, Holds, StandsFor, Answered, AnswersLine, FailsAtLine, Continues}
use Rattle.poincare_run.proofs.{Shared.{Breaks, Goes, TakesLine, Place, Appends-nil, Appends-trans, AppendsPart-after}, LineLemmas.{whole_lines-newline, rest_of-newline, whole_lines-other}}
use Rattle.poincare_run.proofs.LineLemmas.{rest_of-other, whole_lines-front}
use Rattle.breakers.specs.{Breakers.{kept}, State.{State as Breaker}}
use Rattle.calc_session.specs.Asking.{AsksInVain, is_long, is_no_line, is_no_command}

-- what is kept of a line is answered as the line is
long_vain : {kept : List ℕ} {reason : Reason} (line : List ℕ) → 1024 < length kept → 1024 < length line → AsksInVain kept reason → AsksInVain line reason
long_vain line k h (is_long e) = is_long h
long_vain line k h (is_no_line t m) = absurd (let short = t.short in omega arith)
long_vain line k h (is_no_command short c none) = absurd (omega arith)

long_reply : {s : State} {before after : List Breaker} {kept : List ℕ} {reply : Reply} (line : List ℕ) → 1024 < length kept → 1024 < length line → IsReply room bits s before after kept reply → IsReply room bits s before after line reply
long_reply line k h (asks_in_vain v same) = asks_in_vain (long_vain line k h v) same
long_reply line k h (is_replied short a r) = absurd (omega arith)

same_reply : (s : State) (before after : List Breaker) (kept line : List ℕ) (reply : Reply) → StandsFor kept line → IsReply room bits s before after kept reply → IsReply room bits s before after line reply
same_reply s before after kept line reply h r = grind (arith, leb-true, leb-false, long_reply)

pub step_of_line : (buffer : LineBuffer) (bytes : List ℕ) (s t : Moment) (reply : Reply) → Holds buffer bytes → LineStep s buffer.kept.items reply t → LineStep s (strip_carriage_return bytes) reply t
step_of_line buffer bytes s t reply h step = grind (arith, same_reply)

-- a line was answered, and then the breakers were swept
pub takes : (buffer : LineBuffer) (bytes : List ℕ) (old new : Place) (checked : List Breaker) (answer : LineAnswer) (text : List ℕ) → Holds buffer bytes
    → Answers room bits old.now.state old.now.breakers buffer.kept.items answer text new.now.state checked → new.now.breakers ≡ kept checked → new.now.draws ≡ old.now.draws → TakesLine old new bytes answer text
takes buffer bytes old new checked answer text h a swept same = record {
  reply = a.reply;
  step = step_of_line buffer bytes old.now new.now a.reply h (record { checked = checked; step = a.step; swept = swept; same = same });
  answer_is = a.answer_is;
  text_is = a.text_is;
}

-- ---- what is written for a line

-- whether the last answer is drawn for an answer
abbrev draws_for : Bool → LineAnswer → Bool
draws_for draws Shown = draws
draws_for draws Stored = draws
draws_for draws Draw = true
draws_for draws answer = false

report_undrawn : (draws : Bool) (told : List ℕ) (reply : Reply) → IsReport told reply → is_drawn draws reply ≡ false
report_undrawn draws told reply h = grind arith

drawn_is : (draws : Bool) (answer : LineAnswer) (reply : Reply) → IsAnswer answer reply → is_drawn draws reply ≡ draws_for draws answer
drawn_is draws answer reply h = grind (arith, report_undrawn)

module _ (old new : Place) (bytes : List ℕ) (answer : LineAnswer) (text : List ℕ) (t : TakesLine old new bytes answer text) where
  written_for : written t.reply new.now ≡ with_newline (printed answer text) ++ picture_if (draws_for new.now.draws answer) new.now.state
  written_for = grind (arith, drawn_is)

  as_for : (a : LineAnswer) → answer ≡ a → written t.reply new.now ≡ with_newline (printed a text) ++ picture_if (draws_for new.now.draws a) new.now.state
  as_for a e = written_for ∙ ap (λ (x : LineAnswer). with_newline (printed x text) ++ picture_if (draws_for new.now.draws x) new.now.state) e

  pub written_blank : answer ≡ Blank → written t.reply new.now ≡ []
  written_blank e = as_for Blank e

  pub written_drawn : answer ≡ Draw → written t.reply new.now ≡ picture_text new.now.state
  written_drawn e = as_for Draw e

  pub written_shown : (answer ≡ Shown) ⊎ (answer ≡ Stored) → written t.reply new.now ≡ (text ++ 10 ∷ []) ++ picture_if new.now.draws new.now.state
  written_shown (inl e) = as_for Shown e
  written_shown (inr e) = as_for Stored e

-- another answer is written alone
alone : (answer : LineAnswer) (draws : Bool) (s : State) (text : List ℕ) → (answer ≡ Blank → ⊥) → (answer ≡ Draw → ⊥) → (answer ≡ Shown → ⊥) → (answer ≡ Stored → ⊥)
    → with_newline (printed answer text) ++ picture_if (draws_for draws answer) s ≡ text ++ 10 ∷ []
alone answer draws s text b d h k = grind (arith, append-nil)

pub written_text : (old new : Place) (bytes : List ℕ) (answer : LineAnswer) (text : List ℕ) → (t : TakesLine old new bytes answer text) → (answer ≡ Blank → ⊥) → (answer ≡ Draw → ⊥) → (answer ≡ Shown → ⊥) → (answer ≡ Stored → ⊥) → written t.reply new.now ≡ text ++ 10 ∷ []
written_text old new bytes answer text t b d h k = written_for old new bytes answer text t ∙ alone answer new.now.draws new.now.state text b d h k

-- ---- chains

-- a chain goes on by one turn
pub chain_more : (s t : Moment) (lines : List (List ℕ)) (turns : List Turn) (line : List ℕ) (turn : Turn)
    → Chain s lines turns t → LineStep t line turn.reply turn.after → Chain s (lines ++ line ∷ []) (turns ++ turn ∷ []) turn.after
chain_more s t [] turns line turn h step =
    (turn, [], subst (λ m. LineStep m line turn.reply turn.after) h.1 step, ap (λ ts. ts ++ turn ∷ []) h.0, (refl, refl))
chain_more s t (l ∷ lines) turns line turn h step =
    let (first, rest, one, e, others) = h in
    (first, rest ++ turn ∷ [], one, ap (λ ts. ts ++ turn ∷ []) e, chain_more first.after t lines rest line turn others step)

all_written-more : (turns : List Turn) (turn : Turn) → all_written (turns ++ turn ∷ []) ≡ all_written turns ++ written turn.reply turn.after
all_written-more [] turn = append-nil (written turn.reply turn.after)
all_written-more (t ∷ ts) turn = ap (λ o. written t.reply t.after ++ o) (all_written-more ts turn) ∙ sym (append_assoc (written t.reply t.after) (all_written ts) (written turn.reply turn.after))

pub replies-more : (turns : List Turn) (turn : Turn) → replies_of (turns ++ turn ∷ []) ≡ replies_of turns ++ turn.reply ∷ []
replies-more [] turn = refl
replies-more (t ∷ ts) turn = ap (λ (rs : List Reply). t.reply ∷ rs) (replies-more ts turn)

pub steps_more : (s t u : Moment) (lines : List (List ℕ)) (out : List ℕ) (line : List ℕ) (reply : Reply)
    → Steps s lines out t → LineStep t line reply u → Steps s (lines ++ line ∷ []) (out ++ written reply u) u
steps_more s t u lines out line reply h step = record {
  turns = h.turns ++ record { reply = reply; after = u } ∷ [];
  chain = chain_more s t lines h.turns line (record { reply = reply; after = u }) h.chain step;
  out_is = ap (λ o. o ++ written reply u) h.out_is ∙ sym (all_written-more h.turns (record { reply = reply; after = u }));
}

module _ (start : Moment) (before out : List ℕ) (old : Place) (h : Answered start before out old) where
  -- a line that ends is answered
  pub goes_by_line : (new : Place) (a b : Option (List ℕ)) → AnswersLine old new (rest_of before) a b → Holds new.line [] → Goes start before (10 ∷ []) out new a b
  goes_by_line new a b line empty = grind (arith, whole_lines-newline, steps_more, rest_of-newline)

  pub breaks_at_line : (a b : Option (List ℕ)) → FailsAtLine old (rest_of before) a b → Breaks start (whole_lines (before ++ 10 ∷ [])) out a b
  breaks_at_line a b line = record {
    answered = whole_lines before ++ strip_carriage_return (rest_of before) ∷ [];
    others = [];
    lines_are = whole_lines-newline before ∙ sym (append-nil _);
    out = written line.reply line.next;
    transcript = (line.next, steps_more start old.now line.next (whole_lines before) out _ line.reply h.steps line.step);
    appended = line.appended;
  }

  -- another byte is kept
  pub goes_by_byte : (new : Place) (a : Option (List ℕ)) (b : ℕ) → is_newline b ≡ false → new.now ≡ old.now → Holds new.line (rest_of before ++ b ∷ []) → Goes start before (b ∷ []) out new a a
  goes_by_byte new a b other same rest = grind (arith, append-nil, whole_lines-other, rest_of-other)

-- ---- one stretch of bytes after the other
pub goes_nowhere : (start : Moment) (before out : List ℕ) (dialog : Place) (a : Option (List ℕ)) → Answered start before out dialog → Goes start before [] out dialog a a
goes_nowhere start before out dialog a h = record { more = []; answered = rw (append-nil, append-nil) h; appended = Appends-nil a }

module _ (start : Moment) (before bytes out : List ℕ) (middle : Place) (a b c : Option (List ℕ)) (h : Goes start before bytes out middle a b) where
  pub goes_on : (more : List ℕ) (new : Place) → ((start : Moment) (before out : List ℕ) → Answered start before out middle → Goes start before more out new b c) → Goes start before (bytes ++ more) out new a c
  goes_on more new next =
      let then = next start (before ++ bytes) (out ++ h.more) h.answered in
      record {
        more = h.more ++ then.more;
        answered = rw (← append_assoc before bytes more, ← append_assoc out h.more then.more) then.answered;
        appended = Appends-trans a b c h.more then.more h.appended then.appended;
      }

  pub breaks_after : (more rest all : List ℕ) → bytes ++ (more ++ rest) ≡ all → ((start : Moment) (before out : List ℕ) → Answered start before out middle → Breaks start (whole_lines (before ++ more)) out b c)
      → Breaks start (whole_lines (before ++ all)) out a c
  breaks_after more rest all whole next =
      let then = next start (before ++ bytes) (out ++ h.more) h.answered in
      let later = whole_lines-front (before ++ bytes ++ more) rest in
      record {
        answered = then.answered;
        others = then.others ++ later.0;
        lines_are = ap whole_lines (ap (λ bs. before ++ bs) (sym whole) ∙ sym (append_assoc before bytes (more ++ rest)) ∙ sym (append_assoc (before ++ bytes) more rest))
            ∙ later.1 ∙ ap (λ ls. ls ++ later.0) then.lines_are ∙ append_assoc then.answered then.others later.0;
        out = h.more ++ then.out;
        transcript = rw (← append_assoc out h.more then.out) then.transcript;
        appended = AppendsPart-after a b c h.more then.out h.appended then.appended;
      }

-- ---- the end of the input
module _ (start : Moment) (input out : List ℕ) (old : Place) (h : Answered start input out old) where
  pub ends_in_newline : (a : Option (List ℕ)) → rest_of input ≡ [] → Continues start (lines_of input) out a a
  ends_in_newline a none = grind (arith, append-nil)

  lines_with_rest : (rest_of input ≡ [] → ⊥) → lines_of input ≡ whole_lines input ++ strip_carriage_return (rest_of input) ∷ []
  lines_with_rest some = grind (arith)

  pub ends_in_line : (new : Place) (a b : Option (List ℕ)) → (rest_of input ≡ [] → ⊥) → AnswersLine old new (rest_of input) a b → Continues start (lines_of input) out a b
  ends_in_line new a b some line = record {
    out = written line.reply new.now;
    transcript = (new.now, rw (lines_with_rest some) (steps_more start old.now new.now (whole_lines input) out _ line.reply h.steps line.step));
    appended = line.appended;
  }

  pub breaks_at_end : (a b : Option (List ℕ)) → (rest_of input ≡ [] → ⊥) → FailsAtLine old (rest_of input) a b → Breaks start (lines_of input) out a b
  breaks_at_end a b some line = record {
    answered = whole_lines input ++ strip_carriage_return (rest_of input) ∷ [];
    others = [];
    lines_are = lines_with_rest some ∙ sym (append-nil _);
    out = written line.reply line.next;
    transcript = (line.next, steps_more start old.now line.next (whole_lines input) out _ line.reply h.steps line.step);
    appended = line.appended;
  }
