-- Texts, from what the parser answered.
use Rattle.calc_session.proofs.Shared.{◌^◌, arith, bare, Placed, AreTokensOf, IsShallow, name_in, IsFirstCharacter, IsFirstWide, ReadsText, Name}
use Rattle.std.specs.Prelude.{◌≤◌, ◌+◌, ◌<◌, ℕ, List, Option, length}

-- places are within a line, or next to its end
pub character_within : (before at : ℕ) (text : List ℕ) → before + length text ≤ 1024 → IsFirstCharacter text at → before + at < 2 ^ 16
character_within before at text l f = let e = f.place_is in omega (arith, l, e)

pub wide_within : (before at : ℕ) (text : List ℕ) → before + length text ≤ 1024 → IsFirstWide text at → before + at < 2 ^ 16
wide_within before at text l f = let e = f.place_is in omega (arith, l, e)

pub read_text : (text : List ℕ) (tokens : List Placed) (store : Option Name) → AreTokensOf tokens text → (h : IsShallow (bare tokens) store) → ReadsText text tokens (name_in store) h.tree
read_text text tokens store l h = grind arith
