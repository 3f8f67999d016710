-- What a sink took of the bytes that it was to take.
use Rattle.std.specs.{Prelude.{ℕ, ◌<◌, Option, List, length, take}, Io.KnownBytes.{Appends}}

-- known bytes grow by a front of bs that is not the whole of it
abbrev pub AppendsPart : Option (List ℕ) → Option (List ℕ) → List ℕ → Type 0
AppendsPart old new bs = (n : ℕ) × (n < length bs) × Appends old new (take n bs)
