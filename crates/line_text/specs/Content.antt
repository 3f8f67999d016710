-- What a buffer for a text is to its callers.
use Rattle.std.specs.Prelude.{ℕ, ◌-◌, List, ◌++◌, length}

-- the bytes in it, and how many it can hold
pub record Content : Type 0 where
  pub bytes : List ℕ
  pub capacity : ℕ

-- how many more it can hold
abbrev pub spare_of : Content → ℕ
spare_of c = c.capacity - length c.bytes

-- with more bytes behind the others
abbrev pub extended : Content → List ℕ → Content
extended c more = record c { bytes = c.bytes ++ more }
