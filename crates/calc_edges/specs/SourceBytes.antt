-- What is known of the bytes of a source.
use Rattle.std.specs.{Prelude.{ℕ, List, Option}, Io.KnownBytes.{Appends, Consumes, Keeps}}

-- the bytes that it gave so far, and those that it has left, each where it tells them
pub record SourceBytes : Type 0 where
  pub given : Option (List ℕ)
  pub left : Option (List ℕ)

-- it gives these bytes: they follow those given before, and are the front of those left
pub record Gives (old new : SourceBytes) (bytes : List ℕ) : Type 0 where
  pub given : Appends old.given new.given bytes
  pub left : Consumes old.left new.left bytes

-- it gives none
pub record GivesNothing (old new : SourceBytes) : Type 0 where
  pub given : Keeps old.given new.given
  pub left : Keeps old.left new.left
