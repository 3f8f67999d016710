-- What a product's answer and its gathered factors keep of the bounds on bytes and bits.
use Rattle.std.specs.Prelude.{ℕ, ◌≡◌, ◌≤◌, List, false}
use Rattle.calc_room.specs.{Counts.{counted, counted_among}, Powers.{HasPowersOf}, Spans.{SpansTree, SpansTrees}}
use Rattle.calc_terms.specs.Trees.{Tree, mult, Trees, has_undef}
use Rattle.product_reduce.specs.Bits.{AreFactorsHeld, IsFactorHeld}
use Rattle.tree_handles.specs.Expressions.{children_of}
use Rattle.tree_room.specs.Handed.{numbers_among}

-- the product of these factors counts no more than they do, has no new powers, is spanned by what spans them, and held by what holds them one by one
pub record KeepsProductBounds (ts : Trees) (t : Tree) : Type 0 where
  pub counts : counted t ≤ counted (mult ts)
  pub powers : HasPowersOf ts t
  pub spanned : (gs : List ℕ) → SpansTrees gs ts → SpansTree gs t
  pub held : (h l : ℕ) → has_undef ts ≡ false → AreFactorsHeld ts h l → IsFactorHeld t h l

-- so do these factors in order, of which two at most are Numbers: a rational, and the root that it stands before
pub record KeepsFactorBounds (ts : Trees) (t : Tree) : Type 0 where
  pub counts : counted_among (children_of t) ≤ counted_among ts
  pub few_numbers : numbers_among (children_of t) ≤ 2
  pub powers : HasPowersOf ts t
  pub spanned : (gs : List ℕ) → SpansTrees gs ts → SpansTree gs t
  pub held : (h l : ℕ) → has_undef ts ≡ false → AreFactorsHeld ts h l → AreFactorsHeld (children_of t) h l
