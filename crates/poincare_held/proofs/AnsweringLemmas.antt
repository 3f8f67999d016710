-- Lemmas on whole texts of lines.
use Rattle.poincare_held.proofs.Shared.{◌≡◌, ◌∙◌, ℕ, ◌<◌, List, [], ◌∷◌, ◌++◌, length, false, All, arith, refl, sym, ap, subst, append_assoc, append-nil, strip_carriage_return, Reply, is_newline}
use Rattle.poincare_held.proofs.Shared.{line_of_rest, lines_of, LineStep, Moment, Steps, written, AnswersLine, AnswersLines, moment_of, Writes, told_on, Held, Page}
use Rattle.poincare_held.proofs.LineLemmas.{lines_first, lines_last, no_lines}

-- the first line is answered, and then the others
steps_first : (s t u : Moment) (line : List ℕ) (lines : List (List ℕ)) (out : List ℕ) (reply : Reply) → LineStep s line reply t → Steps t lines out u → Steps s (line ∷ lines) (written reply t ++ out) u
steps_first s t u line lines out reply step h = record {
  turns = record { reply = reply; after = t } ∷ h.turns;
  chain = (record { reply = reply; after = t }, h.turns, step, refl, h.chain);
  out_is = ap (λ o. written reply t ++ o) h.out_is;
}

-- no line is left
no_steps : (s : Moment) → Steps s [] [] s
no_steps s = record { turns = []; chain = (refl, refl); out_is = refl }

-- in the middle of a text: what was written so far goes on by the answers to the lines of the rest
pub record IsUnderWay (lines : List ℕ) (old : Held) (page : Page) (rest : List ℕ) (new : Held) (page' : Page) : Type 0 where
  pub out : List ℕ
  pub goes : (more : List ℕ) (end : Moment) → Steps (moment_of new) (lines_of rest) more end → Steps (moment_of old) (lines_of lines) (out ++ more) end
  pub writes : Writes page out page'

pub begins : (lines : List ℕ) (old : Held) (page : Page) → IsUnderWay lines old page lines old page
begins lines old page = record { out = []; goes = λ more end h. h; writes = record { told = sym (append-nil (told_on page)); lent = refl } }

module _ (lines : List ℕ) (old mid new : Held) (page page' page'' : Page) (rest : List ℕ) (u : IsUnderWay lines old page rest mid page') where
  later : (line : List ℕ) → (a : AnswersLine mid line page' new page'') → Writes page (u.out ++ written a.reply (moment_of new)) page''
  later line a = record {
    told = a.writes.told ∙ ap (λ o. o ++ written a.reply (moment_of new)) u.writes.told ∙ append_assoc (told_on page) u.out (written a.reply (moment_of new));
    lent = a.writes.lent ∙ u.writes.lent;
  }

  -- one line more is answered
  pub goes_on : (line behind : List ℕ) → rest ≡ line ++ 10 ∷ behind → All (λ b. is_newline b ≡ false) line → AnswersLine mid line page' new page'' → IsUnderWay lines old page behind new page''
  goes_on line behind e clear a = record {
    out = u.out ++ written a.reply (moment_of new);
    goes = λ more end h. subst (λ o. Steps (moment_of old) (lines_of lines) o end) (sym (append_assoc u.out (written a.reply (moment_of new)) more))
        (u.goes (written a.reply (moment_of new) ++ more) end
        (subst (λ ls. Steps (moment_of mid) ls (written a.reply (moment_of new) ++ more) end) (sym (ap lines_of e ∙ lines_first line behind clear))
        (steps_first (moment_of mid) (moment_of new) end (strip_carriage_return line) (lines_of behind) more a.reply a.step h)));
    writes = later line a;
  }

  -- the last one is, which has no newline
  pub ends_by_line : All (λ b. is_newline b ≡ false) rest → 0 < length rest → AnswersLine mid rest page' new page'' → AnswersLines old (lines_of lines) page new page''
  ends_by_line clear some a = record {
    out = u.out ++ written a.reply (moment_of new);
    steps = subst (λ o. Steps (moment_of old) (lines_of lines) o (moment_of new)) (ap (λ o. u.out ++ o) (append-nil (written a.reply (moment_of new))))
        (u.goes (written a.reply (moment_of new) ++ []) (moment_of new)
        (subst (λ ls. Steps (moment_of mid) ls (written a.reply (moment_of new) ++ []) (moment_of new)) (sym (lines_last rest clear ∙ one_line rest some))
        (steps_first (moment_of mid) (moment_of new) (moment_of new) (strip_carriage_return rest) [] [] a.reply a.step (no_steps (moment_of new)))));
    writes = later rest a;
  }
    where
      one_line : (bytes : List ℕ) → 0 < length bytes → line_of_rest bytes ≡ strip_carriage_return bytes ∷ []
      one_line [] h = absurd (omega arith)
      one_line (b ∷ bytes) h = refl

-- no line is left
pub ends_here : (lines : List ℕ) (old new : Held) (page page' : Page) (rest : List ℕ) → IsUnderWay lines old page rest new page' → length rest ≡ 0 → AnswersLines old (lines_of lines) page new page'
ends_here lines old new page page' rest u none = record {
  out = u.out;
  steps = subst (λ o. Steps (moment_of old) (lines_of lines) o (moment_of new)) (append-nil u.out)
      (u.goes [] (moment_of new) (subst (λ ls. Steps (moment_of new) ls [] (moment_of new)) (sym (ap lines_of (empty rest none) ∙ no_lines)) (no_steps (moment_of new))));
  writes = u.writes;
}
  where
    empty : (bytes : List ℕ) → length bytes ≡ 0 → bytes ≡ []
    empty [] h = refl
    empty (b ∷ bytes) h = absurd (omega arith)
