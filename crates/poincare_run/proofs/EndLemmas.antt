-- Lemmas on the loop over the input, and how it ends.
use Rattle.std.proofs.Common.{◌≡◌, inl, inr, ℕ, ◌-◌, ◌≤◌, ◌<◌, List, [], ◌++◌, length, Option, refl, subst, arith, append-nil, length-append}
use Rattle.poincare_run.proofs.Shared.{Appends, Gives, Gives-nil, Gives-trans, IsAtEnd, SourceBytes, lines_of, whole_lines, rest_of, Moment, Holds, session_limit, Writes, WritesPart, ReadsAll, ReadsLimit, WriteStops, Answered}
use Rattle.poincare_run.proofs.Shared.{Continues, Breaks, Goes, IsUnderWay, Place, Appends-nil, Appends-trans, AppendsPart-after}

pub begins : (dialog : Place) (t : SourceBytes) (k : Option (List ℕ)) → Holds dialog.line [] → IsUnderWay dialog.now t t k k session_limit dialog
unfolding whole_lines rest_of
begins dialog t k h = record {
  input = [];
  out = [];
  read = Gives-nil t;
  limit = refl;
  answered = record { steps = record { turns = []; chain = (refl, refl); out_is = refl }; rest = h };
  appended = Appends-nil k;
}

-- what was answered before and now
continued : (start : Moment) (lines : List (List ℕ)) (out : List ℕ) (a b c : Option (List ℕ)) → Appends a b out → Continues start lines out b c → Writes start lines a c
continued start lines out a b c h more = record {
  out = out ++ more.out;
  transcript = more.transcript;
  appended = Appends-trans a b c out more.out h more.appended;
}

broken : (start : Moment) (lines : List (List ℕ)) (out : List ℕ) (a b c : Option (List ℕ)) → Appends a b out → Breaks start lines out b c → WritesPart start lines a c
broken start lines out a b c h more = record {
  answered = more.answered;
  others = more.others;
  lines_are = more.lines_are;
  out = out ++ more.out;
  transcript = more.transcript;
  appended = AppendsPart-after a b c out more.out h more.appended;
}

module _ (start : Moment) (t t' : SourceBytes) (k k' : Option (List ℕ)) (left : ℕ) (dialog : Place) (h : IsUnderWay start t t' k k' left dialog) where
  pub reads_on : (u : SourceBytes) (j : Option (List ℕ)) (bytes : List ℕ) (n : ℕ) (new : Place) → n ≤ left → length bytes ≡ n → Gives t' u bytes
      → ((start : Moment) (before out : List ℕ) → Answered start before out dialog → Goes start before bytes out new k' j) → IsUnderWay start t u k j (left - n) new
  reads_on u j bytes n new fits many read next =
      let goes = next start h.input h.out h.answered in
      record {
        input = h.input ++ bytes;
        out = h.out ++ goes.more;
        read = Gives-trans t t' u h.input bytes h.read read;
        limit = omega (arith, h.limit, length-append h.input bytes);
        answered = goes.answered;
        appended = Appends-trans k k' j h.out goes.more h.appended goes.appended;
      }

  pub write_fails : (u : SourceBytes) (j : Option (List ℕ)) (bytes : List ℕ) → length bytes ≤ left → Gives t' u bytes
      → ((start : Moment) (before out : List ℕ) → Answered start before out dialog → Breaks start (whole_lines (before ++ bytes)) out k' j) → WriteStops start t u k j
  write_fails u j bytes fits read next = record {
    input = h.input ++ bytes;
    read = Gives-trans t t' u h.input bytes h.read read;
    within = omega (arith, h.limit, length-append h.input bytes);
    written = inl (broken start (whole_lines (h.input ++ bytes)) h.out k k' j h.appended (next start h.input h.out h.answered));
  }

  pub ends : (u : SourceBytes) (j : Option (List ℕ)) → 0 < left → Gives t' u [] → IsAtEnd u.left
      → ((start : Moment) (input out : List ℕ) → Answered start input out dialog → Continues start (lines_of input) out k' j) → ReadsAll start t u k j
  ends u j more read end next = record {
    input = h.input;
    read = subst (Gives t u) (append-nil h.input) (Gives-trans t t' u h.input [] h.read read);
    nothing_left = end;
    within = omega (arith, h.limit);
    written = continued start (lines_of h.input) h.out k k' j h.appended (next start h.input h.out h.answered);
  }

  pub end_fails : (u : SourceBytes) (j : Option (List ℕ)) → Gives t' u [] → IsAtEnd u.left
      → ((start : Moment) (input out : List ℕ) → Answered start input out dialog → Breaks start (lines_of input) out k' j) → WriteStops start t u k j
  end_fails u j read end next = record {
    input = h.input;
    read = subst (Gives t u) (append-nil h.input) (Gives-trans t t' u h.input [] h.read read);
    within = omega (arith, h.limit);
    written = inr (end, broken start (lines_of h.input) h.out k k' j h.appended (next start h.input h.out h.answered));
  }

  pub limit_reached : left ≡ 0 → ReadsLimit start t t' k k'
  limit_reached none = grind (arith)
