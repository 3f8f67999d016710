-- The extent of layouts side by side, gathered from the left.
use Rattle.pool_layouts.proofs.Shared.{◌≡◌, ℕ, ◌+◌, ◌<◌, ◌≤◌, max, List, arith, Label, Forest, empty, tree, arity, nodes_in, Extent, drawings, extent_from, extent_of, HasSmall, IsSmall, pictures}
use Rattle.pool_layouts.proofs.{Shared.{widths, most_above, most_below, side_by_side, bytes_nodes}, Measures.{blocks_of, behind_first, extent_same, bounded, most_heights}}

-- so many layouts are gathered, and the others are listed from a place on
pub record IsBefore (k others : Forest) (count at : ℕ) (es : List Extent) (row : Extent) : Type 0 where
  pub small : HasSmall others at es
  pub number : count + arity others ≡ arity k
  pub nodes : row.nodes + nodes_in others ≡ 1 + nodes_in k
  pub width : row.width + widths (blocks_of others) ≡ widths (blocks_of k)
  pub above : max row.above (most_above (blocks_of others)) ≡ most_above (blocks_of k)
  pub below : max row.below (most_below (blocks_of others)) ≡ most_below (blocks_of k)

pub record IsGathering (k : Forest) (count at : ℕ) (es : List Extent) (row : Extent) : Type 0 where
  pub others : Forest
  pub before : IsBefore k others count at es row

pub gathering_start : (k : Forest) (first : ℕ) (es : List Extent) → HasSmall k first es → IsGathering k 0 first es (record { nodes = 1; width = 0; above = 0; below = 0 })
gathering_start k first es h = record { others = k; before = record { small = h; number = omega arith; nodes = omega arith; width = omega arith; above = omega arith; below = omega arith } }

-- the row so far is small
pub row_small : {k others : Forest} {count at first : ℕ} {es : List Extent} {row : Extent} → HasSmall k first es → IsBefore k others count at es row → IsSmall row
row_small h g = grind (arith, bounded, bytes_nodes, most_heights, blocks_of)

-- one more
pub next_part : {k : Forest} {count at : ℕ} {es : List Extent} {row : Extent} → IsGathering k count at es row → count < arity k
    → (l : Label) × (b : Forest) × (r : Forest) × IsBefore k (tree l b r) count at es row
next_part {k = k} {count = count} {at = at} {es = es} {row = row} g few = by g.others g.before
  where
    by : (f : Forest) → IsBefore k f count at es row → (l : Label) × (b : Forest) × (r : Forest) × IsBefore k (tree l b r) count at es row
    by empty h = absurd (omega (arith, h.number, few))
    by (tree l b r) h = (l, b, r, h)

pub gathered_more : {k b r : Forest} {l : Label} {count at : ℕ} {es : List Extent} {row : Extent} (next : ℕ) (new part : Extent) → IsBefore k (tree l b r) count at es row
    → part ≡ extent_of l.payload b → next ≡ at + part.nodes
    → new ≡ (record { nodes = row.nodes + part.nodes; width = row.width + part.width; above = max row.above part.above; below = max row.below part.below }) → IsBefore k r (count + 1) next es new
gathered_more next new part p q a e = grind (arith, behind_first)

pub gathered_all : {k : Forest} {count at : ℕ} {es : List Extent} {row : Extent} → IsGathering k count at es row → arity k ≤ count
    → row ≡ extent_from (1 + nodes_in k) (side_by_side (pictures (drawings k)))
gathered_all {k = k} {count = count} {at = at} {es = es} {row = row} g all = by g.others g.before
  where
    by : (f : Forest) → IsBefore k f count at es row → row ≡ extent_from (1 + nodes_in k) (side_by_side (pictures (drawings k)))
    by empty h = extent_same _ _ _ _ _ _ _ _ (omega (arith, h.nodes)) (omega (arith, h.width)) (omega (arith, h.above)) (omega (arith, h.below))
    by (tree l j r) h = absurd (omega (arith, h.number, all))
