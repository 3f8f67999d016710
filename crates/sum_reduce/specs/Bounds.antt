-- What a sum's answer keeps of the bounds on bytes and bits.
use Rattle.std.specs.Prelude.{ℕ, ◌+◌, ◌≡◌, ◌≤◌, List, false}
use Rattle.calc_room.specs.{Counts.{counted, counted_among}, Powers.{HasPowersOf}, Spans.{SpansTree, SpansTrees}}
use Rattle.calc_terms.specs.Trees.{Tree, Trees, has_undef}
use Rattle.tree_bits.specs.{Children.{IsSumHeld, addends_of_each}, HeldTrees.{IsTreeHeld}, Powers.{AddsCounts}}

-- the sum of these terms counts 1 more at most than those that are no Numbers, has no new powers, and is spanned by what spans them
pub record KeepsSumRoom (ts : Trees) (t : Tree) : Type 0 where
  pub counts : counted t ≤ 1 + counted_among ts
  pub powers : HasPowersOf ts t
  pub spanned : (gs : List ℕ) → SpansTrees gs ts → SpansTree gs t

-- and it is held by what holds the sum of the terms, and counts a base no more often than exponents do together
pub record KeepsSumBounds (ts : Trees) (t : Tree) : Type 0 where
  pub room : KeepsSumRoom ts t
  pub held : (h l : ℕ) → has_undef ts ≡ false → IsSumHeld (addends_of_each ts) h l → IsTreeHeld t h l
  pub counts : AddsCounts ts t
