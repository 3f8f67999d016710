-- What a line is answered with, and what is printed.
use Rattle.std.specs.{Prelude.{ℕ, pos, List, ◌++◌, ◌==◌, if◌then◌else◌, [], Option, Some, None, codes}, Fmt.{signed_decimal}}
use Rattle.calc_terms.specs.{Fits.{Operation, add_op, mul_op, pow_op}, Fractions.{Fraction}, Trees.{Tree}}
use Rattle.calc_commands.specs.Reports.{forgot_report}
use Rattle.calc_language.specs.{Texts.{text}, Tokens.{times_sign}}
use Rattle.node_pool.specs.declared.full.Full.{Full}

-- why a line is refused
pub data Reason : Type 0 where
  long : Reason
  character_at : ℕ → Reason
  number_at : ℕ → Reason
  syntax : Reason
  deep : Reason
  reserved : Reason
  names_full : Reason
  full : Full → Reason
  overflow : Operation → Fraction → Fraction → Reason
  interrupted : ℕ → Reason
  circular : List ℕ → Reason
  command : Reason
  not_polynomial : Reason
  no_derivative : Reason
  not_linear : ℕ → Reason
  too_many : Reason
  no_decimal : Reason
  undecided : Reason
  degree : Reason

-- nothing; a tree as it is displayed, and the name under which it is stored; `undef`; what a command tells, and the name that it forgot; that the last answer is to be drawn; or a refusal
pub data Reply : Type 0 where
  blank : Reply
  shown : Tree → Reply
  stored : Tree → List ℕ → Reply
  undefined : Reply
  report : List ℕ → Reply
  forgot : List ℕ → Reply
  drawn : Reply
  refused : Reason → Reply

-- a tree is displayed, and stored where there is a name
abbrev pub displayed : Option (List ℕ) → Tree → Reply
displayed None t = shown t
displayed (Some x) t = stored t x

-- the same as a report: the text of what is displayed, or `undef`
abbrev pub reported : Reply → Reply
reported (shown t) = report (text t)
reported (stored t x) = report (text t)
reported undefined = report (codes "undef")
reported reply = reply

-- what the pool refused
abbrev pub refusal_in : Reason → Option Full
refusal_in (full refusal) = Some refusal
refusal_in reason = None

-- ---- what is printed, without the newline

abbrev pub count_text : ℕ → List ℕ
count_text n = signed_decimal (pos n)

abbrev pub sign_of : Operation → List ℕ
sign_of add_op = codes "+"
sign_of mul_op = times_sign
sign_of pow_op = codes "^"

-- the denominator behind a slash, unless it is 1
abbrev pub denominator_text : ℕ → List ℕ
denominator_text d = if d == 1 then [] else codes "/" ++ count_text d

abbrev pub operand_text : Fraction → List ℕ
operand_text q = signed_decimal q.num ++ denominator_text q.den

abbrev pub reason_text : Reason → List ℕ
reason_text long = codes "! long"
reason_text (character_at at) = codes "! character " ++ count_text at
reason_text (number_at at) = codes "! number " ++ count_text at
reason_text syntax = codes "! syntax"
reason_text deep = codes "! deep"
reason_text reserved = codes "! reserved"
reason_text names_full = codes "! names full"
reason_text (full refusal) = codes "! full needed " ++ (count_text refusal.needed ++ (codes " free " ++ count_text refusal.free))
reason_text (overflow op a b) = codes "! overflow " ++ (operand_text a ++ (sign_of op ++ operand_text b))
reason_text (interrupted by) = codes "! interrupted"
reason_text (circular x) = codes "! circular " ++ x
reason_text command = codes "! command"
reason_text not_polynomial = codes "! not polynomial"
reason_text no_derivative = codes "! no derivative"
reason_text (not_linear equation) = codes "! not linear " ++ count_text equation
reason_text too_many = codes "! too many"
reason_text no_decimal = codes "! no decimal"
reason_text undecided = codes "! undecided"
reason_text degree = codes "! degree"

-- there is none for a blank line, nor where the last answer is to be drawn
unfoldable pub text_of : Reply → Option (List ℕ)
text_of blank = None
text_of (shown t) = Some (text t)
text_of (stored t x) = Some (text t)
text_of undefined = Some (codes "undef")
text_of (report told) = Some told
text_of (forgot x) = Some (forgot_report x)
text_of drawn = None
text_of (refused reason) = Some (reason_text reason)
