-- Lemmas on counts of answers.
use Rattle.poincare_run.proofs.Shared.{◌≡◌, ◌∙◌, ◌⊎◌, ℕ, ◌+◌, ◌≤◌, List, [], ◌∷◌, ◌++◌, false, refl, sym, ap, subst, arith, length-append, sum_by_push, LineAnswer, Blank, Shown, Stored}
use Rattle.poincare_run.proofs.Shared.{Undef, Report, Draw, Refused, IsAnswer, IsReport, Reply, Holds, is_newline, rest_of, whole_lines, Place, TakesLine, Tallied, Chain, Moment}
use Rattle.poincare_run.proofs.Shared.{replies_of, Sort, as_shown, as_stored, as_undefined, as_refusal, as_other, sort_of, one_shown, one_stored, one_undefined, one_refusal, how_many, text_length}
use Rattle.poincare_run.proofs.{Shared.{tally_of, Tally}, LineLemmas.{whole_lines-newline, rest_of-newline, whole_lines-other, rest_of-other}, StepLemmas.{chain_more, replies-more}}

-- the sort that an answer tells
abbrev pub sort_told : LineAnswer → Sort
sort_told Blank = as_other
sort_told Shown = as_shown
sort_told Stored = as_stored
sort_told Undef = as_undefined
sort_told Report = as_other
sort_told Draw = as_other
sort_told (Refused refusal) = as_refusal

report_sort : (told : List ℕ) (reply : Reply) → IsReport told reply → sort_of reply ≡ as_other
report_sort told reply h = grind arith

pub sort_is : (answer : LineAnswer) (reply : Reply) → IsAnswer answer reply → sort_of reply ≡ sort_told answer
sort_is answer reply h = grind (arith, report_sort)

pub other_told : (answer : LineAnswer) → (answer ≡ Blank) ⊎ ((answer ≡ Report) ⊎ (answer ≡ Draw)) → sort_told answer ≡ as_other
other_told answer e = grind arith

tally_with : (l s o u r b : ℕ) → Tally
tally_with l s o u r b = record { lines = l; shown = s; stored = o; undefined = u; refused = r; bytes = b }

same_tally : (a b : Tally) → a.lines ≡ b.lines → a.shown ≡ b.shown → a.stored ≡ b.stored → a.undefined ≡ b.undefined → a.refused ≡ b.refused → a.bytes ≡ b.bytes → a ≡ b
unfolding tally_with
same_tally a b l s o u r n = grind (arith, tally_with)

-- one reply more
pub record Counts (old new : Tally) (sort : Sort) (size : ℕ) : Type 0 where
  pub lines : new.lines ≡ old.lines + 1
  pub shown : new.shown ≡ old.shown + one_shown sort
  pub stored : new.stored ≡ old.stored + one_stored sort
  pub undefined : new.undefined ≡ old.undefined + one_undefined sort
  pub refused : new.refused ≡ old.refused + one_refusal sort
  pub bytes : new.bytes ≡ old.bytes + size

one_more : (one : Sort → ℕ) (replies : List Reply) (reply : Reply) (sort : Sort) (old new : ℕ) → sort_of reply ≡ sort → old ≡ how_many one replies → new ≡ old + one sort → new ≡ how_many one (replies ++ reply ∷ [])
one_more one replies reply sort old new is before e =
    e ∙ ap (λ n. n + one sort) before ∙ ap (λ s. how_many one replies + one s) (sym is) ∙ sym (sum_by_push (λ r. one (sort_of r)) replies reply)

pub counted : (old new : Tally) (replies : List Reply) (reply : Reply) (sort : Sort) (bytes : ℕ) → old ≡ tally_of replies → sort_of reply ≡ sort → bytes ≡ text_length reply → Counts old new sort bytes → new ≡ tally_of (replies ++ reply ∷ [])
unfolding tally_of
counted old new replies reply sort bytes e is many c = grind (arith, same_tally, length-append, one_more, sum_by_push)

-- ---- bytes of lines

module _ (start : Moment) (before : List ℕ) (old new : Place) (tally : Tally) (h : Tallied start before tally old) where
  pub tallied_by_byte : (b : ℕ) → is_newline b ≡ false → new.now ≡ old.now → Holds new.line (rest_of before ++ b ∷ []) → Tallied start (before ++ b ∷ []) tally new
  tallied_by_byte b other same rest = grind (arith, whole_lines-other, rest_of-other)

  pub tallied_by_line : (more : Tally) (answer : LineAnswer) (text : List ℕ) → (t : TakesLine old new (rest_of before) answer text) → Holds new.line []
      → more ≡ tally_of (replies_of h.turns ++ t.reply ∷ []) → Tallied start (before ++ 10 ∷ []) more new
  tallied_by_line more answer text t empty is = record {
    turns = h.turns ++ record { reply = t.reply; after = new.now } ∷ [];
    chain = subst (λ ls. Chain start ls (h.turns ++ record { reply = t.reply; after = new.now } ∷ []) new.now) (sym (whole_lines-newline before))
        (chain_more start old.now (whole_lines before) h.turns _ (record { reply = t.reply; after = new.now }) h.chain t.step);
    tally_is = is ∙ ap tally_of (sym (replies-more h.turns (record { reply = t.reply; after = new.now })));
    rest = subst (Holds new.line) (sym (rest_of-newline before)) empty;
  }

pub no_tally : (place : Place) (tally : Tally) → tally ≡ tally_of [] → Holds place.line [] → Tallied place.now [] tally place
unfolding whole_lines rest_of
no_tally place tally e h = record { turns = []; chain = (refl, refl); tally_is = e; rest = h }

pub no_lines : (tally : Tally) → tally ≡ tally_of [] → tally.lines ≤ 0
unfolding tally_of
no_lines tally e = let none : tally.lines ≡ 0 = ap (λ (t : Tally). t.lines) e in omega arith
