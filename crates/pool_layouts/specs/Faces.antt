-- Faces that have a layout.
use Rattle.std.specs.Prelude.{⊤}
use Rattle.calc_terms.specs.Trees.{Tree, undef, add, mult, power, root, neg, sub, div, Trees, none, more}

-- the tree holds no Undef
abbrev mutual
  pub IsDefined : Tree → Type 0
  IsDefined undef = ⊥
  IsDefined (add ts) = AreDefined ts
  IsDefined (mult ts) = AreDefined ts
  IsDefined (power b e) = IsDefined b × IsDefined e
  IsDefined (root a) = IsDefined a
  IsDefined (neg a) = IsDefined a
  IsDefined (sub a b) = IsDefined a × IsDefined b
  IsDefined (div a b) = IsDefined a × IsDefined b
  IsDefined _ = ⊤

  pub AreDefined : Trees → Type 0
  AreDefined none = ⊤
  AreDefined (more t ts) = IsDefined t × AreDefined ts
