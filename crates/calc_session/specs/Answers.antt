-- What the code answers, and the replies that its answers stand for.
use Rattle.std.specs.Prelude.{◌≡◌, ℕ, List, [], codes, Option, Some, None, Contains, ⊤}
use Rattle.breakers.specs.State.{State as Breaker}
use Rattle.calc_algebra.specs.Rewritings.{HasNoNewName}
use Rattle.calc_commands.specs.Reports.{forgot_report}
use Rattle.calc_language.specs.Texts.{IsWritable, text}
use Rattle.calc_terms.specs.{Leaf.{name_of}, Rat.{value_of}, Trees.{Tree, names}}
use Rattle.name_table.specs.declared.fault.FillFault.{FillFault}
use Rattle.name_table.specs.declared.fault.FillFault.TheVariants as fill
use Rattle.node_pool.specs.{declared.full.Full.{Full as PoolFull}, State.{State as PoolState}}
use Rattle.rational128.specs.Refusals.{operation_of}
use Rattle.reduce_port.specs.declared.fault.ReduceFault.{ReduceFault}
use Rattle.reduce_port.specs.declared.fault.ReduceFault.TheVariants as fault
use Rattle.tree_handles.specs.{Forest.{Forest}, Handed.{Gives, tree_of}, Standing.{KeepsRefusals, Refuses}}
use Rattle.calc_session.specs.{declared.answers.Refusal.{Refusal}, declared.answers.Refusal.TheVariants.{Long, Character, Number, Syntax, Deep, Reserved, NamesFull, Full, Overflow, Interrupted}}
use Rattle.calc_session.specs.{declared.answers.Refusal.TheVariants.{Circular, Command, NotPolynomial, NoDerivative, NotLinear, TooMany, NoDecimal, Undecided, Degree}, declared.answers.LineAnswer.{LineAnswer}}
use Rattle.calc_session.specs.{declared.answers.LineAnswer.TheVariants.{Blank, Shown, Stored, Undef, Report, Draw, Refused}, declared.evaluating.Evaluation.{Evaluation}}
use Rattle.calc_session.specs.declared.evaluating.Evaluation.TheVariants as evaluation
use Rattle.calc_session.specs.Replies.{Reason, Reply, blank, shown, stored, undefined, report, forgot, drawn, refused, long, character_at, number_at, syntax, deep, reserved, names_full, full}
use Rattle.calc_session.specs.{Replies.{overflow, interrupted, circular, command, not_polynomial, no_derivative, not_linear, too_many, no_decimal, undecided, degree, displayed, text_of, refusal_in}, States.{State}}
use Rattle.calc_session.specs.{Findings.{finding_text}, Steps.{IsReply, Leaves, Step}}

abbrev pub reason_of : Refusal → Reason
reason_of Long = long
reason_of (Character at) = character_at at
reason_of (Number at) = number_at at
reason_of Syntax = syntax
reason_of Deep = deep
reason_of Reserved = reserved
reason_of NamesFull = names_full
reason_of (Full needed free) = full (record { needed = needed; free = free })
reason_of (Overflow op a b) = overflow (operation_of op) (value_of a) (value_of b)
reason_of (Interrupted by) = interrupted by
reason_of (Circular name) = circular (name_of name)
reason_of Command = command
reason_of NotPolynomial = not_polynomial
reason_of NoDerivative = no_derivative
reason_of (NotLinear equation) = not_linear equation
reason_of TooMany = too_many
reason_of NoDecimal = no_decimal
reason_of Undecided = undecided
reason_of Degree = degree

abbrev pub reply_of : Refusal → Reply
reply_of refusal = refused (reason_of refusal)

abbrev pub number_of : Refusal → ℕ
number_of Long = 1
number_of (Character at) = 2
number_of (Number at) = 3
number_of Syntax = 4
number_of Deep = 5
number_of Reserved = 6
number_of NamesFull = 7
number_of (Full needed free) = 8
number_of (Overflow op a b) = 9
number_of (Interrupted by) = 10
number_of (Circular name) = 11
number_of Command = 12
number_of NotPolynomial = 14
number_of NoDerivative = 15
number_of (NotLinear equation) = 16
number_of TooMany = 17
number_of NoDecimal = 18
number_of Undecided = 19
number_of Degree = 20

-- a command tells this
abbrev pub IsReport : List ℕ → Reply → Type 0
IsReport told (report written) = told ≡ written
IsReport told (forgot x) = told ≡ forgot_report x
IsReport told reply = ⊥

-- the reply that an answer stands for
abbrev pub IsAnswer : LineAnswer → Reply → Type 0
IsAnswer Blank reply = reply ≡ blank
IsAnswer Shown reply = (t : Tree) × (reply ≡ shown t)
IsAnswer Stored reply = (t : Tree) × (x : List ℕ) × (reply ≡ stored t x)
IsAnswer Undef reply = reply ≡ undefined
IsAnswer Report reply = (told : List ℕ) × IsReport told reply
IsAnswer Draw reply = reply ≡ drawn
IsAnswer (Refused refusal) reply = reply ≡ reply_of refusal

-- the answer where a tree is displayed, and stored where there is a name
abbrev pub answer_to : Option (List ℕ) → LineAnswer
answer_to None = Shown
answer_to (Some x) = Stored

-- the refusal of the pool that an answer passes on
abbrev pub refusal_of_pool : LineAnswer → Option PoolFull
refusal_of_pool (Refused refusal) = refusal_in (reason_of refusal)
refusal_of_pool answer = None

-- what is printed of an answer and its text
abbrev pub printed : LineAnswer → List ℕ → Option (List ℕ)
printed Blank written = None
printed Draw written = None
printed answer written = Some written

-- From a state a line is answered so, with this text, and leaves a state.
pub record Answers (room bits : Option (Tree → ℕ)) (old : State) (before : List Breaker) (line : List ℕ) (answer : LineAnswer) (text : List ℕ) (new : State) (after : List Breaker) : Type 0 where
  pub reply : Reply
  pub step : Step room bits old before line reply new after
  pub answer_is : IsAnswer answer reply
  pub text_is : printed answer text ≡ text_of reply

-- the text, where that of a refusal is still to be written
abbrev pub IsTextOf : LineAnswer → List ℕ → Reply → Type 0
IsTextOf Blank written reply = written ≡ []
IsTextOf Draw written reply = written ≡ []
IsTextOf (Refused refusal) written reply = written ≡ []
IsTextOf answer written reply = Some written ≡ text_of reply

-- The answer and its text stand for a reply among these, which leaves a state; the text of a refusal is still to be written.
pub record AnswersBy (Is : Reply → Type 0) (old : State) (answer : LineAnswer) (text : List ℕ) (new : State) : Type 0 where
  pub reply : Reply
  pub reply_is : Is reply
  pub state_is : Leaves reply old new
  pub answer_is : IsAnswer answer reply
  pub text_is : IsTextOf answer text reply

-- a line is answered so
abbrev pub AnswersUntold : (room bits : Option (Tree → ℕ)) → State → List Breaker → List ℕ → LineAnswer → List ℕ → State → List Breaker → Type 0
AnswersUntold room bits old before line answer text new after = AnswersBy (IsReply room bits old before after line) old answer text new

-- what is told of an evaluation whose tree is shown and not kept: its text, or `undef`, or what is found of a Number, or nothing yet where it is refused
abbrev pub Tells : PoolState → Evaluation → LineAnswer → List ℕ → Type 0
Tells s (evaluation.Face h) answer written = (answer ≡ Report) × (written ≡ text (tree_of h s))
Tells s evaluation.Undefined answer written = (answer ≡ Report) × (written ≡ codes "undef")
Tells s (evaluation.Found f) answer written = (answer ≡ Report) × (written ≡ finding_text f)
Tells s (evaluation.Refused refusal) answer written = (answer ≡ Refused refusal) × (written ≡ [])

-- among these replies there is the report of what is written, or the refusal, of which no text is written yet
abbrev pub TellsAs : (Reply → Type 0) → LineAnswer → List ℕ → Type 0
TellsAs Is Report written = Is (report written)
TellsAs Is (Refused refusal) written = Is (reply_of refusal) × (written ≡ [])
TellsAs Is answer written = ⊥

-- ---- evaluations

-- a tree is not to hold the name under which it is stored
abbrev pub LacksName : Option (List ℕ) → Tree → Type 0
LacksName None t = ⊤
LacksName (Some x) t = ¬ (Contains (names t) x)

-- a tree that is displayed for another: it can be written, has no new name, and does not hold that under which it is stored
pub record IsDisplayOf (store : Option (List ℕ)) (t shown : Tree) : Type 0 where
  pub writable : IsWritable shown
  pub no_new_name : HasNoNewName t shown
  pub clear : LacksName store shown

-- the evaluation came to a reply that is among these; what is displayed is such a tree, and stands behind the other trees
abbrev pub ComesTo : (Reply → Type 0) → (Tree → Type 0) → Option (List ℕ) → Forest → Forest → Evaluation → Type 0
ComesTo Is Fits store others new (evaluation.Face h) = (t : Tree) × Is (displayed store t) × Fits t × Gives others new h (λ u. u ≡ t)
ComesTo Is Fits store others new evaluation.Undefined = Is undefined
ComesTo Is Fits store others new (evaluation.Found f) = Is (report (finding_text f))
ComesTo Is Fits store others new (evaluation.Refused refusal) = Is (reply_of refusal)

-- the refusal of the pool that it passes on
abbrev pub refusal_of_evaluation : Evaluation → Option PoolFull
refusal_of_evaluation (evaluation.Refused refusal) = refusal_in (reason_of refusal)
refusal_of_evaluation e = None

-- but for the nodes the pool is as before, or one refusal was counted
abbrev pub CountsRefusal : Option PoolFull → PoolState → PoolState → Type 0
CountsRefusal None old new = KeepsRefusals old new
CountsRefusal (Some refusal) old new = Refuses old new refusal

-- the refusal that passes on the fault of a reduction
abbrev pub refusal_of : ReduceFault → Refusal
refusal_of (fault.Full lack) = Full lack.needed lack.free
refusal_of (fault.Overflow o) = Overflow o.op o.a o.b
refusal_of (fault.Interrupted i) = Interrupted i.by

-- the refusal that passes on why names could not be replaced
abbrev pub refusal_to_fill : FillFault → Refusal
refusal_to_fill (fill.Full lack) = Full lack.needed lack.free
refusal_to_fill fill.Deep = Deep
