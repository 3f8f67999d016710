-- The children of a sum, one less.
use Rattle.std.specs.Prelude.{ℕ, zero, suc}
use Rattle.calc_terms.specs.Trees.{Trees, none, more}

-- trees without the one at a place, counted from 0
abbrev pub removed : ℕ → Trees → Trees
removed n none = none
removed zero (more t ts) = ts
removed (suc n) (more t ts) = more t (removed n ts)
