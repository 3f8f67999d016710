-- Bytes on a page: at the front of memory that is lent, as far as there is room.
use Rattle.std.specs.Prelude.{◌≡◌, ℕ, ◌-◌, ◌^◌, min, List, ◌++◌, length, take, drop}

-- the memory, once the bytes stand at its front
abbrev pub over : List ℕ → List ℕ → List ℕ
over bytes memory = take (length memory) bytes ++ drop (length bytes) memory

-- the memory, once they stand behind the first so many
abbrev pub after : ℕ → List ℕ → List ℕ → List ℕ
after count bytes memory = take count memory ++ over bytes (drop count memory)

-- these are the bytes at the front of the memory, as far as there is room, and this is their count, which stops at 2 ^ 64 - 1
pub record IsFront (count : ℕ) (bytes memory : List ℕ) : Type 0 where
  pub counted : count ≡ min (length bytes) (2 ^ 64 - 1)
  pub front : take count memory ≡ take (length memory) bytes
