-- Why a line is refused.
use Rattle.std.specs.Prelude.{ℕ, List}
use Rattle.calc_tokens.specs.{Faults.{IsFaultOf as IsTokenFaultOf}, Placed.{Placed, bare}, Scanned.{AreTokensOf}}
use Rattle.calc_parser.specs.{Outcomes.{IsFaultOf}, declared.parser.LineFault.{LineFault}}
use Rattle.calc_parser.specs.declared.parser.LineFault.TheVariants as line_fault

-- its first place that begins no token or a literal that is too wide; or its tokens are no line, or one over the limit of depth
abbrev pub IsLineFaultOf : List ℕ → LineFault → Type 0
IsLineFaultOf line (line_fault.Token fault) = IsTokenFaultOf line fault
IsLineFaultOf line (line_fault.Parse fault) = (ts : List Placed) × AreTokensOf ts line × IsFaultOf (bare ts) fault
