-- Keys by their places in a list.
use Rattle.std.specs.{Prelude.{ℕ, ◌-◌, min, List, length, slice_index_or}, declared.cmp.Ordering.{Ordering}, Ordering.{nat_cmp, ordering_then}}
use Rattle.calc_algebra.specs.TreeOrder.{tree_cmp}
use Rattle.calc_terms.specs.Trees.{Tree}
use Rattle.node_order.specs.{declared.keys.Key.{Key}, Keys.{key_tree}}
use Rattle.tree_handles.specs.Forest.{Forest}

-- the key at a place, counted from 0, and the last one behind it
abbrev pub key_at : List Key → ℕ → Key
key_at keys at = slice_index_or keys (min at (length keys - 1)) (record { id = 0; behind = 0 })

-- its tree
abbrev pub ranked_tree : List Key → Forest → ℕ → Tree
ranked_tree keys f at = key_tree (key_at keys at) f

-- the order of places: by their trees, and of one tree by the places
abbrev pub place_cmp : (ℕ → Tree) → ℕ → ℕ → Ordering
place_cmp tree i j = ordering_then (tree_cmp (tree i) (tree j)) (nat_cmp i j)
