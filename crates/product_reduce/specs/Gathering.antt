-- A product whose Numbers are gathered, and whose other factors are in order.
use Rattle.std.specs.Prelude.{ℕ, ◌≡◌, ◌≤◌, true, false}
use Rattle.calc_algebra.specs.{Reduced.{base_of, are_reduced, product_tree}, Rewritings.{Rewrites}}
use Rattle.calc_measures.specs.Loads.{nest_of, load_of_factors}
use Rattle.calc_terms.specs.Trees.{Tree, mult, Trees, append, count}
use Rattle.node_order.specs.Sorting.{IsSorting}
use Rattle.number_forms.specs.Readers.{is_zero}
use Rattle.product_reduce.specs.{Answers.{AreJoinable}, Factors.{opened, others_in, IsCoefficient, coefficient_before, coefficient_times}, Joining.{have_partners}}
use Rattle.tree_handles.specs.Expressions.{children_of}

-- factors to be joined: the coefficient, which is not 0, and behind it the others in the order of their bases
pub record IsGathered (ts : Trees) (new : Tree) : Type 0 where
  pub coefficient : Tree
  pub joinable : AreJoinable coefficient ts
  pub others : Trees
  pub sorted : IsSorting 0 base_of (others_in (opened ts)) others
  pub is : new ≡ mult (coefficient_before coefficient others)
  pub rewrites : Rewrites (mult ts) new
  pub reduced : are_reduced (children_of new) ≡ true
  pub nest : nest_of (children_of new) ≤ nest_of ts
  pub load : load_of_factors (children_of new) ≤ load_of_factors ts

-- and so behind a coefficient
pub record IsOrdered (c : Tree) (ts : Trees) (t : Tree) : Type 0 where
  pub not_zero : is_zero c ≡ false
  pub partners : have_partners ts ≡ true
  pub us : Trees
  pub sorted : IsSorting 0 base_of ts us
  pub is : t ≡ mult (coefficient_before c us)

-- the first n of these factors are their coefficient, as it is written before the others: none for 1, or one Number
pub record IsLead (n : ℕ) (c : Tree) (ts : Trees) : Type 0 where
  pub lead : Trees
  pub split : ts ≡ append lead (others_in ts)
  pub long : count lead ≡ n
  pub coefficient : IsCoefficient c ts
  pub not_zero : is_zero c ≡ false
  pub some : 1 ≤ count (others_in ts)
  pub before : (us : Trees) → coefficient_before c us ≡ append lead us
  pub written : (us : Trees) → IsSorting 0 base_of (others_in ts) us → coefficient_times c us ≡ product_tree (append lead us)
