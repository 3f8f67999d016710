-- Trees without new powers.
use Rattle.std.specs.Prelude.{⊤}
use Rattle.calc_terms.specs.Trees.{Tree, power, Trees, AllParts, IsPartOf}

-- a power is a part of one of the trees; nothing is asked of another tree
abbrev pub IsPowerOf : Trees → Tree → Type 0
IsPowerOf ts (power b e) = IsPartOf (power b e) ts
IsPowerOf ts _ = ⊤

-- each power in t is a part of one of the trees
abbrev pub HasPowersOf : Trees → Tree → Type 0
HasPowersOf ts t = AllParts (IsPowerOf ts) t
