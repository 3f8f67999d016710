-- The terms of a sum on the way to its answer.
use Rattle.std.specs.Prelude.{ℕ, ◌+◌, ◌≡◌, ◌≤◌, true, if◌then◌else◌, IsPermutation}
use Rattle.calc_measures.specs.Loads.{nest_of}
use Rattle.calc_algebra.specs.{Numbers.{is_number, are_numbers}, Reduced.{part_of}, SquareClasses.{Same}, Rewritings.{Rewrites}}
use Rattle.calc_terms.specs.Trees.{Tree, add, Trees, none, more, count, nodes}
use Rattle.node_order.specs.Sorting.{list_of}
use Rattle.sum_reduce.specs.{Bits.{KeepsHeld}, Collected.{numbers_in, others_in, sum_of_values, AreUnlike, Collects}, Terms.{AreFormed, opened}}
use Rattle.tree_bits.specs.Children.{addends_of_each}

-- 1 for a Number, the nodes of its part for another term, and all terms of a sum: where partners are joined it falls
abbrev mutual
  pub width : Tree → ℕ
  width (add ts) = if is_number (add ts) then 1 else widths ts
  width t = if is_number t then 1 else nodes (part_of t)

  pub widths : Trees → ℕ
  widths none = 0
  widths (more t ts) = width t + widths ts

-- no terms were joined: those that are no Numbers changed places, and the Numbers have the same sum; one at most is the same
pub record IsRearranged (ts us : Trees) : Type 0 where
  pub others : IsPermutation (list_of (others_in (opened ts))) (list_of (others_in (opened us)))
  pub worth : Same (sum_of_values (numbers_in (opened us))) (sum_of_values (numbers_in (opened ts)))
  pub few : count (numbers_in (opened ts)) ≤ 1 → numbers_in (opened us) ≡ numbers_in (opened ts)

-- the sum of these terms as a sum of others, which are reduced
pub record IsStage (ts us : Trees) : Type 0 where
  pub rewrites : Rewrites (add ts) (add us)
  pub formed : AreFormed us
  pub some : 1 ≤ count us
  pub nest : nest_of us ≤ nest_of ts
  pub numbers : are_numbers ts ≡ true → are_numbers us ≡ true
  pub width : widths us ≤ widths ts
  pub collects : Collects ts us
  pub rearranged : AreUnlike (others_in (opened ts)) → IsRearranged ts us
  pub held : KeepsHeld (addends_of_each ts) (addends_of_each us)
