-- The two sides of a node.
use Rattle.std.specs.Prelude.{ℕ, ◌≡◌}
use Rattle.calc_terms.specs.Trees.{Trees}
use Rattle.tree_handles.specs.{Expressions.{nth}, Forest.{Forest}, Handed.{Gives}}

-- two trees stand last behind the others, the first of these and the second
pub record GivesSides (ts : Trees) (others new : Forest) (left right : ℕ) : Type 0 where
  pub between : Forest
  pub left-given : Gives others between left (λ t. t ≡ nth 0 ts)
  pub right-given : Gives between new right (λ t. t ≡ nth 1 ts)
