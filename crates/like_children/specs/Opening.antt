-- Children that give way to their own.
use Rattle.std.specs.Prelude.{ℕ, suc, ◌≡◌, ◌<◌, ◌≤◌, Bool, if◌then◌else◌}
use Rattle.calc_terms.specs.Trees.{Tree, Trees, none, more}
use Rattle.tree_handles.specs.Expressions.{nth, children_of}

-- the parts of a tree are its children where it gives way, and else it alone
abbrev pub Opens : (Tree → Trees) → Tree → Bool → Type 0
Opens parts t b = parts t ≡ (if b then children_of t else more t none)

-- none of the trees from one place to before another gives way
abbrev pub NoneOpensBetween : (Tree → Trees) → ℕ → ℕ → Trees → Type 0
NoneOpensBetween parts from to ts = (k : ℕ) → from ≤ k → k < to → parts (nth k ts) ≡ more (nth k ts) none

-- the last one before a place that gives way stands there
pub record IsLastToOpen (parts : Tree → Trees) (n to : ℕ) (ts : Trees) : Type 0 where
  pub before : n < to
  pub opens : parts (nth n ts) ≡ children_of (nth n ts)
  pub last : NoneOpensBetween parts (suc n) to ts
