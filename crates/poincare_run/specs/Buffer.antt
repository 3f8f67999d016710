-- What is kept of a line while its bytes come.
use Rattle.std.specs.{Prelude.{◌≡◌, ℕ, ◌≤◌, List, [], ◌∷◌, ◌++◌, length, Bool, if◌then◌else◌}, Str.Lines.{strip_carriage_return}}
use Rattle.poincare_run.specs.declared.buffer.LineBuffer.{LineBuffer}

-- kept is answered like the line: it is the line, or both are over 1,024 bytes
pub record StandsFor (kept line : List ℕ) : Type 0 where
  pub same : length line ≤ 1025 → kept ≡ line
  pub long : 1025 ≤ length line → length kept ≡ 1025

abbrev pub return_if : Bool → List ℕ
return_if returned = if returned then 13 ∷ [] else []

-- the buffer holds a line that came with these bytes, the carriage return at their end apart
pub record Holds (buffer : LineBuffer) (bytes : List ℕ) : Type 0 where
  pub line : List ℕ
  pub bytes_are : bytes ≡ line ++ return_if buffer.returned
  pub line_is : strip_carriage_return bytes ≡ line
  pub stands : StandsFor buffer.kept.items line
