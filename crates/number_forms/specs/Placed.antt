-- New trees behind others.
use Rattle.std.specs.Prelude.{◌≡◌}
use Rattle.calc_terms.specs.Trees.{Trees}
use Rattle.tree_handles.specs.{Forest.{Forest, join}, Handed.{Represents}}

-- trees that came behind others
pub record Adds (ts : Trees) (old new : Forest) : Type 0 where
  pub trees : Forest
  pub whole : new ≡ join old trees
  pub represents : Represents trees ts
