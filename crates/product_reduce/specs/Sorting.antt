-- Factors in the order of their bases.
use Rattle.std.specs.Prelude.{ℕ}
use Rattle.calc_algebra.specs.Reduced.{base_of}
use Rattle.calc_terms.specs.Trees.{Trees}
use Rattle.node_order.specs.Sorting.{IsSorting}
use Rattle.product_reduce.specs.Products.{Becomes, factors_in}
use Rattle.tree_handles.specs.Forest.{Forest}

-- the factors of a root behind the first n change places, so that their bases do not fall
pub record SortsFactors (i n : ℕ) (old new : Forest) : Type 0 where
  pub us : Trees
  pub becomes : Becomes i old new us
  pub sorted : IsSorting n base_of (factors_in i old) us
