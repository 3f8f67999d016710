-- Trees beside the bounds on their bits.
use Rattle.std.specs.Prelude.{ℕ, ◌+◌, ◌*◌, ◌≤◌, List, [], ◌∷◌}
use Rattle.calc_measures.specs.Measures.{HighLow, bounds, bits_of}
use Rattle.calc_terms.specs.{Limits.{bits_limit}, Trees.{Tree, Trees, none, more}}

-- the bounds of each tree
abbrev pub bounds_of_each : Trees → List HighLow
bounds_of_each none = []
bounds_of_each (more t ts) = bounds t ∷ bounds_of_each ts

-- twice its high and four times its low, within which calculations have room
abbrev pub IsWithinBits : Tree → Type 0
IsWithinBits t = bits_of t ≤ bits_limit

-- numbers that (h, l) holds are calculated within the limit of bits
abbrev pub AreFewBits : ℕ → ℕ → Type 0
AreFewBits h l = 2 * h + 4 * l ≤ bits_limit
