-- What a sum of reduced terms reduces to.
use Rattle.std.specs.Prelude.{◌≡◌, ◌≤◌, true}
use Rattle.calc_measures.specs.Loads.{nest}
use Rattle.calc_algebra.specs.{Numbers.{is_number, are_numbers}, Rewritings.{Reduces}}
use Rattle.calc_terms.specs.Trees.{Tree, add, Trees, is_undef, has_undef}
use Rattle.sum_reduce.specs.{Arranging.{IsSettled}, Collected.{Collects}, Terms.{written_tree}}

-- the reduced sum of these terms
pub record IsSumAnswer (ts : Trees) (t : Tree) : Type 0 where
  pub reduces : Reduces (add ts) t
  pub undefined : is_undef t ≡ has_undef ts
  pub number : are_numbers ts ≡ true → is_number t ≡ true
  pub nest : nest t ≤ nest (add ts)

-- these terms, collected until nothing is left to open, to add, to join or to exchange, and written
pub record IsCollected (ts : Trees) (t : Tree) : Type 0 where
  pub us : Trees
  pub collects : Collects ts us
  pub settled : IsSettled us
  pub is : t ≡ written_tree us
