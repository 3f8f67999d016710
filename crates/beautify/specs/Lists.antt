-- Lists of trees, by places counted from 0.
use Rattle.std.specs.Prelude.{ℕ, zero, suc}
use Rattle.calc_terms.specs.Trees.{Trees, none, more}

-- the first n trees
abbrev pub first : ℕ → Trees → Trees
first zero ts = none
first (suc n) none = none
first (suc n) (more t ts) = more t (first n ts)

-- the trees behind them
abbrev pub behind : ℕ → Trees → Trees
behind zero ts = ts
behind (suc n) none = none
behind (suc n) (more t ts) = behind n ts
