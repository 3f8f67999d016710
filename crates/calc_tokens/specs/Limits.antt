-- How long a line may be.
use Rattle.std.specs.Prelude.{ℕ}

-- the most bytes of a line, and so the most of its tokens
abbrev pub line_limit : ℕ
line_limit = 1024
