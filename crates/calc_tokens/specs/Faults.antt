-- What a fault says.
use Rattle.std.specs.Prelude.{ℕ, ◌≡◌, List, true}
use Rattle.calc_tokens.specs.{declared.tokens.TokenFault.{TokenFault}, declared.tokens.TokenFault.TheVariants.{Character, Number}, Scanned.{BeginsNoToken, begins_wide, IsFirstCharacter, IsFirstWide}}

-- the fault of bytes that stand at this place
abbrev pub IsFaultHere : List ℕ → ℕ → TokenFault → Type 0
IsFaultHere bytes at (Character p) = (p ≡ at) × BeginsNoToken bytes
IsFaultHere bytes at (Number p) = (p ≡ at) × (begins_wide bytes ≡ true)

-- the first fault of a line
abbrev pub IsFaultOf : List ℕ → TokenFault → Type 0
IsFaultOf line (Character at) = IsFirstCharacter line at
IsFaultOf line (Number at) = IsFirstWide line at
