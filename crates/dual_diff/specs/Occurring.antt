-- Whether a name is one of a tree's.
use Rattle.std.specs.{Prelude.{ℕ, List, Bool, false, ◌||◌}, Str.{bytes_eq}}
use Rattle.calc_terms.specs.Trees.{Tree, num, symbol, undef, add, mult, power, root, neg, sub, div, Trees, none, more}

abbrev mutual
  pub occurs : List ℕ → Tree → Bool
  occurs x (num q) = false
  occurs x (symbol y) = bytes_eq y x
  occurs x undef = false
  occurs x (add ts) = occurs_in x ts
  occurs x (mult ts) = occurs_in x ts
  occurs x (power b e) = occurs x b || occurs x e
  occurs x (root a) = occurs x a
  occurs x (neg a) = occurs x a
  occurs x (sub a b) = occurs x a || occurs x b
  occurs x (div a b) = occurs x a || occurs x b

  -- in one of these
  pub occurs_in : List ℕ → Trees → Bool
  occurs_in x none = false
  occurs_in x (more t ts) = occurs x t || occurs_in x ts
