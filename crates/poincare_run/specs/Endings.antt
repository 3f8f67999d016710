-- How a session ends: what was read of the source, and what was written to the sink.
-- Of the source: the bytes that it gave and has left; of the sink: the bytes that it took; at the beginning and at the end, each where they tell them.
use Rattle.std.specs.{Prelude.{◌≡◌, ◌⊎◌, ℕ, ◌<◌, ◌≤◌, List, [], ◌∷◌, ◌++◌, length, Option}, Io.KnownBytes.{Appends, IsAtEnd}}
use Rattle.calc_edges.specs.{SourceBytes.{Gives, SourceBytes}, Taken.{AppendsPart}}
use Rattle.poincare_run.specs.{Lines.{lines_of, whole_lines}, Generated.{session_text}, Summaries.{summary_text, tally_of}, Steps.{Chain, Moment, Transcript, Turn, replies_of}}

-- the most bytes that are read
abbrev pub session_limit : ℕ
session_limit = 16777215

-- the answers to these lines were written
pub record Writes (start : Moment) (lines : List (List ℕ)) (taken taken' : Option (List ℕ)) : Type 0 where
  pub out : List ℕ
  pub transcript : Transcript start lines out
  pub appended : Appends taken taken' out

-- the answers to some of the lines, from the first on, were to be written, and a front of them was
pub record WritesPart (start : Moment) (lines : List (List ℕ)) (taken taken' : Option (List ℕ)) : Type 0 where
  pub answered : List (List ℕ)
  pub others : List (List ℕ)
  pub lines_are : lines ≡ answered ++ others
  pub out : List ℕ
  pub transcript : Transcript start answered out
  pub appended : AppendsPart taken taken' out

-- the input was read to its end, and all its lines were answered
pub record ReadsAll (start : Moment) (told told' : SourceBytes) (taken taken' : Option (List ℕ)) : Type 0 where
  pub input : List ℕ
  pub read : Gives told told' input
  pub nothing_left : IsAtEnd told'.left
  pub within : length input < session_limit
  pub written : Writes start (lines_of input) taken taken'

-- the input was read up to some place before the limit, and the lines that were whole were answered
pub record ReadsPart (start : Moment) (told told' : SourceBytes) (taken taken' : Option (List ℕ)) : Type 0 where
  pub input : List ℕ
  pub read : Gives told told' input
  pub within : length input < session_limit
  pub written : Writes start (whole_lines input) taken taken'

-- the input was read up to the limit, and the lines that were whole were answered
pub record ReadsLimit (start : Moment) (told told' : SourceBytes) (taken taken' : Option (List ℕ)) : Type 0 where
  pub input : List ℕ
  pub read : Gives told told' input
  pub all : length input ≡ session_limit
  pub written : Writes start (whole_lines input) taken taken'

-- a part of the answers to what was read was written: to the lines that were whole, and to the rest too only where the source is at its end
pub record WriteStops (start : Moment) (told told' : SourceBytes) (taken taken' : Option (List ℕ)) : Type 0 where
  pub input : List ℕ
  pub read : Gives told told' input
  pub within : length input ≤ session_limit
  pub written : WritesPart start (whole_lines input) taken taken' ⊎ (IsAtEnd told'.left × WritesPart start (lines_of input) taken taken')

-- the lines of the session of a number are answered from this moment on, and the summary is what is written
pub record SumsUp (start : Moment) (number : ℕ) (taken taken' : Option (List ℕ)) : Type 0 where
  pub turns : List Turn
  pub end : Moment
  pub chain : Chain start (whole_lines (session_text number)) turns end
  pub appended : Appends taken taken' (summary_text (tally_of (replies_of turns)) ++ 10 ∷ [])

-- the same, and a front of the summary is written
pub record SumsUpInPart (start : Moment) (number : ℕ) (taken taken' : Option (List ℕ)) : Type 0 where
  pub turns : List Turn
  pub end : Moment
  pub chain : Chain start (whole_lines (session_text number)) turns end
  pub appended : AppendsPart taken taken' (summary_text (tally_of (replies_of turns)) ++ 10 ∷ [])
