-- How far a session has come in the middle of its input.
use Rattle.std.specs.{Prelude.{◌≡◌, ℕ, ◌+◌, List, ◌++◌, length, Option, ⊤}, Str.Lines.{strip_carriage_return}, Io.KnownBytes.{Appends}}
use Rattle.breakers.specs.{State.{State as Breaker}, Watch.{states}}
use Rattle.calc_edges.specs.{Faults.{IsCalm, StopsAtFailedRead, StopsAtFailure}, SourceBytes.{Gives, SourceBytes}, declared.failures.Failures.{Failures}, Taken.{AppendsPart}}
use Rattle.calc_session.specs.{Answers.{IsAnswer, printed}, Replies.{Reply, text_of}, declared.answers.LineAnswer.{LineAnswer}}
use Rattle.poincare_run.specs.{declared.buffer.LineBuffer.{LineBuffer}, declared.dialog.Dialog.{Dialog}, declared.dialog.Ending.{Ending}, declared.dialog.Ending.TheVariants.{ReadToEnd, ReadFailed}}
use Rattle.poincare_run.specs.{declared.dialog.Ending.TheVariants.{WriteFailed, LimitReached, NoMemory}, Lines.{whole_lines, rest_of}, Steps.{Chain, LineStep, Moment, Steps, Transcript, Turn}}
use Rattle.poincare_run.specs.{Steps.{replies_of, written}, Beginnings.{Beginning, reads, generates}, Buffer.{Holds}, Summaries.{tally_of}, declared.tally.Tally.{Tally}, Endings.{session_limit}}
use Rattle.poincare_run.specs.Endings.{ReadsAll, ReadsPart, ReadsLimit, WriteStops, SumsUp, SumsUpInPart}

-- a place between two bytes of the input: what is kept from line to line, and what has come of the next line
pub record Place : Type 0 where
  pub now : Moment
  pub line : LineBuffer

-- the place where a dialog stands
abbrev pub place_of : {B : Type 0} → (B → Breaker) → Dialog B → Place
place_of breaker dialog = record { now = record { state = dialog.session.state; breakers = states breaker dialog.watch; draws = dialog.draws }; line = dialog.line }

-- the whole lines of the bytes are answered by out, and the buffer holds the rest
pub record Answered (start : Moment) (bytes out : List ℕ) (place : Place) : Type 0 where
  pub steps : Steps start (whole_lines bytes) out place.now
  pub rest : Holds place.line (rest_of bytes)

-- the line that came with these bytes is answered so, by a reply with this text
pub record TakesLine (old new : Place) (bytes : List ℕ) (answer : LineAnswer) (text : List ℕ) : Type 0 where
  pub reply : Reply
  pub step : LineStep old.now (strip_carriage_return bytes) reply new.now
  pub answer_is : IsAnswer answer reply
  pub text_is : printed answer text ≡ text_of reply

-- the line that came with these bytes is answered, and the answer is written
pub record AnswersLine (old new : Place) (bytes : List ℕ) (taken taken' : Option (List ℕ)) : Type 0 where
  pub reply : Reply
  pub step : LineStep old.now (strip_carriage_return bytes) reply new.now
  pub appended : Appends taken taken' (written reply new.now)

-- a front of its answer is written
pub record FailsAtLine (old : Place) (bytes : List ℕ) (taken taken' : Option (List ℕ)) : Type 0 where
  pub reply : Reply
  pub next : Moment
  pub step : LineStep old.now (strip_carriage_return bytes) reply next
  pub appended : AppendsPart taken taken' (written reply next)

-- these lines are answered by what was written before and now
pub record Continues (start : Moment) (lines : List (List ℕ)) (before : List ℕ) (taken taken' : Option (List ℕ)) : Type 0 where
  pub out : List ℕ
  pub transcript : Transcript start lines (before ++ out)
  pub appended : Appends taken taken' out

-- the answer to one of these lines is cut off
pub record Breaks (start : Moment) (lines : List (List ℕ)) (before : List ℕ) (taken taken' : Option (List ℕ)) : Type 0 where
  pub answered : List (List ℕ)
  pub others : List (List ℕ)
  pub lines_are : lines ≡ answered ++ others
  pub out : List ℕ
  pub transcript : Transcript start answered (before ++ out)
  pub appended : AppendsPart taken taken' out

-- the bytes came behind those before
pub record Goes (start : Moment) (before bytes out : List ℕ) (new : Place) (taken taken' : Option (List ℕ)) : Type 0 where
  pub more : List ℕ
  pub answered : Answered start (before ++ bytes) (out ++ more) new
  pub appended : Appends taken taken' more

-- the loop over the input: left more bytes may be read
pub record IsUnderWay (start : Moment) (told told' : SourceBytes) (taken taken' : Option (List ℕ)) (left : ℕ) (place : Place) : Type 0 where
  pub input : List ℕ
  pub out : List ℕ
  pub read : Gives told told' input
  pub limit : length input + left ≡ session_limit
  pub answered : Answered start input out place
  pub appended : Appends taken taken' out

-- how a dialog began: the moment, and what was known of the bytes of its source and its sink
pub record Outset : Type 0 where
  pub start : Moment
  pub told : SourceBytes
  pub taken : Option (List ℕ)

-- all whole lines of what was read since then are answered, the answers are written, and the buffer holds the rest
pub record HasAnswered (outset : Outset) (told : SourceBytes) (taken : Option (List ℕ)) (place : Place) : Type 0 where
  pub input : List ℕ
  pub out : List ℕ
  pub read : Gives outset.told told input
  pub answered : Answered outset.start input out place
  pub appended : Appends outset.taken taken out

-- the whole lines of the bytes are answered by replies of this tally, and the buffer holds the rest
pub record Tallied (start : Moment) (bytes : List ℕ) (tally : Tally) (place : Place) : Type 0 where
  pub turns : List Turn
  pub chain : Chain start (whole_lines bytes) turns place.now
  pub tally_is : tally ≡ tally_of (replies_of turns)
  pub rest : Holds place.line (rest_of bytes)

-- how it ended, by the bytes that the source and the sink tell
abbrev pub EndsAs : Ending → Moment → SourceBytes → SourceBytes → Option (List ℕ) → Option (List ℕ) → Type 0
EndsAs ReadToEnd = ReadsAll
EndsAs ReadFailed = ReadsPart
EndsAs WriteFailed = WriteStops
EndsAs LimitReached = ReadsLimit
EndsAs NoMemory = λ start told told' taken taken'. (told' ≡ told) × (taken' ≡ taken)

-- how a generated session ended, by the bytes that the sink tells
abbrev pub SumsUpAs : Ending → Moment → ℕ → Option (List ℕ) → Option (List ℕ) → Type 0
SumsUpAs ReadToEnd = SumsUp
SumsUpAs WriteFailed = SumsUpInPart
SumsUpAs _ = λ start number taken taken'. taken' ≡ taken

-- a generated session is summed up, or the sink failed, or there was no memory
abbrev pub IsSummed : Ending → Type 0
IsSummed ReadToEnd = ⊤
IsSummed WriteFailed = ⊤
IsSummed NoMemory = ⊤
IsSummed _ = ⊥

-- the same from either beginning; a generated session reads nothing
abbrev pub EndsFrom : Ending → Beginning → SourceBytes → SourceBytes → Option (List ℕ) → Option (List ℕ) → Type 0
EndsFrom ending (reads start) told told' taken taken' = EndsAs ending start told told' taken taken'
EndsFrom ending (generates start n) told told' taken taken' = SumsUpAs ending start n taken taken' × (told' ≡ told) × IsSummed ending

-- a fact where there was no memory to begin with
abbrev pub IfNoMemory : Ending → Type 0 → Type 0
IfNoMemory NoMemory P = P
IfNoMemory _ P = ⊤

-- the reading stopped at a read that failed, or no read failed
abbrev pub StopsReading : {X : Type 0} → Ending → (X → SourceBytes) → (X → Failures) → X → X → Type 0
StopsReading ReadFailed told faults old new = StopsAtFailedRead told faults old new
StopsReading _ told faults old new = IsCalm (faults old) (faults new)

-- the writing stopped at a write that failed, or no write failed
abbrev pub StopsWriting : {X : Type 0} → Ending → (X → Option (List ℕ)) → (X → Failures) → X → X → Type 0
StopsWriting WriteFailed taken faults old new = StopsAtFailure taken faults old new
StopsWriting _ taken faults old new = IsCalm (faults old) (faults new)

-- the status of the program
abbrev pub status : Ending → ℕ
status ReadToEnd = 0
status ReadFailed = 3
status WriteFailed = 4
status NoMemory = 5
status LimitReached = 6
